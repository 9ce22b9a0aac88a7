-- The first law over what pricing goes by: 3M's prices lifted by whole steps lift every close by as much.
--     Lifted     the figures d' are d with instrument 0's prices lifted by δ
--     row_moved  one contract, by its row: where the closes before it are lifted, its own is
--     shift      the law, for each contract up to which neither has a 14
-- Assumes nothing.
use Prim.Native.Nat.{ℕ, zero, suc, ◌+◌, ◌-◌, ◌*◌, ◌≤◌, ◌<◌}
use Rattle.std.specs.Prelude.{◌≡◌, Bool, true, false, not, cond, List, T, leb, eqb, ℤ, ◌*ℤ◌, get_or, set, length, Option, Some, None}
use Rattle.std.proofs.Math.Path.{refl, ap, ap₂}
use Rattle.std.proofs.Common.{sym, ◌∙◌, subst, arith, leb-true, ne_eqb, length-set, get_or-set_same, get_or-set_other}
use Rattle.std.proofs.Math.Nat.{add-mul}
use Rattle.std.proofs.Math.Decide.{ℕ_discrete}
use Rattle.std.proofs.lemmas.Bool.{eqb-false}
use Rattle.std.proofs.Math.IntN.{pos, ◌+ℤ◌}
use Rattle.market.specs.declared.Leg.{Leg}
use Rattle.market.specs.declared.Leg.TheVariants.{Outright, Over, Under}
use Rattle.market.specs.declared.Contract.{Contract}
use Rattle.market.specs.Market.{minimum_lots, leg_of, contract_of, metal_of, step_of, marked, is_in, named, window_length, 3M}
use Rattle.market.specs.laws.Rows.{window-length}
use Rattle.market.specs.laws.Rules.{Earlier, Ruled, ruled}
use Rattle.cents.specs.laws.Whole.{up, down, is, is-+, is--, is-*, is_pos, show-≡, *ℤ-+ℤ}
use Rattle.cents.specs.Round.{round}
use Rattle.cents.specs.laws.Round.{round-shift}
use Rattle.cents.specs.Close.{close_of}
use Rattle.trades.specs.Trades.{lots_in, value_in}
use Rattle.twap.specs.Span.{Span, missing, sum}
use Rattle.price_rules.specs.declared.Method.{Method}
use Rattle.price_rules.specs.declared.Mean.{Mean}
use Rattle.price_rules.specs.Closing.{Figures, applied, less_of, base_of, implied_by, deals_sum, vwap_sum, vwap_lots, twap_by, lots_of, mean, mean_of, Told, closed, answered, row_answer, Known, answer_by, learnt, known_at, answer_of}
use Rattle.price_rules.specs.laws.Adding.{deals-are}
use Rattle.six_answers.specs.laws.State.{View, price, no-price, view}
use Rattle.laws.specs.Demand.{Moved, lifts, stays, InRange}

-- ---- the figures, lifted by δ

pub data LiftedSpan (δ : ℤ) : Span → Span → Type 0 where
  none : LiftedSpan δ missing missing
  some : {s s' : ℤ} → s' ≡ s +ℤ pos window_length *ℤ δ → LiftedSpan δ (sum s) (sum s')

pub record Lifted (δ : ℤ) (d d' : Figures) : Type 0 where
  pub metal : d'.metal ≡ d.metal
  pub marks : d'.marks ≡ d.marks
  pub third : d'.third ≡ d.third
  pub lots : lots_in (d'.trades 0) ≡ lots_in (d.trades 0)
  pub value : value_in (d'.trades 0) ≡ value_in (d.trades 0) +ℤ pos (lots_in (d.trades 0)) *ℤ δ
  pub span : LiftedSpan δ (d.span 0) (d'.span 0)
  pub trades-stay : (k : ℕ) → d'.trades (suc k) ≡ d.trades (suc k)
  pub spans-stay : (k : ℕ) → d'.span (suc k) ≡ d.span (suc k)

-- ---- one instrument: where its prices, or else the close below them, are lifted by δ, its part in a sum is, as often as it counts

-- the closes of the contracts before c
Closes : ℤ → ℕ → List ℕ → List ℕ → Type 0
Closes δ c k k' = (j : ℕ) → j < c → pos (get_or k' j 0) ≡ pos (get_or k j 0) +ℤ δ

-- the price of an outright is lifted, that of a spread stays
abbrev Fed : ℤ → ℕ → Leg → ℤ → ℤ → Type 0
Fed δ w Outright v v' = v' ≡ v +ℤ pos w *ℤ δ
Fed δ w (Over o) v v' = v' ≡ v
Fed δ w (Under o) v v' = v' ≡ v

applied-moved : (less : Bool) (b v e : ℤ) → applied less (b +ℤ e) v ≡ applied less b v +ℤ e
applied-moved true b v e = show-≡ (is-- (is-+ (is b) (is e)) (is v)) (is-+ (is-- (is b) (is v)) (is e)) (omega arith)
applied-moved false b v e = show-≡ (is-+ (is-+ (is b) (is e)) (is v)) (is-+ (is-+ (is b) (is v)) (is e)) (omega arith)

module _ (δ : ℤ) (c : ℕ) (k k' : List ℕ) (known : Closes δ c k k') where
  base-moved : (o w : ℕ) → o < c → pos (w * get_or k' o 0) ≡ pos (w * get_or k o 0) +ℤ pos w *ℤ δ
  unfolding Closes
  base-moved o w h = ap (λ (z : ℤ). pos w *ℤ z) (known o h) ∙ *ℤ-+ℤ w (pos (get_or k o 0)) δ

  leg-moved : (i : ℕ) (leg : Leg) (mark : Bool) (w : ℕ) (v v' : ℤ) → Earlier c i leg → Fed δ w leg v v' → applied (less_of leg mark) (pos (w * base_of k' leg)) v' ≡ applied (less_of leg mark) (pos (w * base_of k leg)) v +ℤ pos w *ℤ δ
  leg-moved i Outright mark w v v' f e = rw e (show-≡ (is-+ (is_pos (w * 0)) (is-+ (is v) (is-* w (is δ)))) (is-+ (is-+ (is_pos (w * 0)) (is v)) (is-* w (is δ))) (omega arith))
  leg-moved i (Over o) mark w v v' f e = rw (e, base-moved o w f) (applied-moved mark (pos (w * get_or k o 0)) v (pos w *ℤ δ))
  leg-moved i (Under o) mark w v v' f e = rw (e, base-moved o w f) (applied-moved (not mark) (pos (w * get_or k o 0)) v (pos w *ℤ δ))

  implied-moved : (marks i w : ℕ) (v v' : ℤ) → Earlier c i (leg_of i) → Fed δ w (leg_of i) v v' → implied_by marks k' i w v' ≡ implied_by marks k i w v +ℤ pos w *ℤ δ
  unfolding implied_by
  implied-moved marks i w v v' f e = leg-moved i (leg_of i) (marked marks i) w v v' f e

-- ---- one contract, by its row

data SpanFed (δ : ℤ) (leg : Leg) : Span → Span → Type 0 where
  none-fed : SpanFed δ leg missing missing
  sum-fed : {s s' : ℤ} → Fed δ window_length leg s s' → SpanFed δ leg (sum s) (sum s')

data MovedMean (δ : ℤ) : Option Mean → Option Mean → Type 0 where
  mean-fed : {method : Method} {n n' : ℤ} {w : ℕ} → 0 < w → n' ≡ n +ℤ pos w *ℤ δ → MovedMean δ (Some (mean method n w)) (Some (mean method n' w))
  no-mean : MovedMean δ None None

cond-moved : {δ : ℤ} {a a' b b' : Option Mean} (t : Bool) → (t ≡ true → MovedMean δ a a') → MovedMean δ b b' → MovedMean δ (cond t a b) (cond t a' b')
cond-moved true f g = f refl
cond-moved false f g = g

-- a spread is fed as before
fed-same : (δ : ℤ) (c k w : ℕ) (leg : Leg) (v : ℤ) → Earlier c (suc k) leg → Fed δ w leg v v
fed-same δ c k w Outright v f = absurd (omega arith)
fed-same δ c k w (Over o) v f = refl
fed-same δ c k w (Under o) v f = refl

span_same : (δ : ℤ) (c k : ℕ) (leg : Leg) (s : Span) → Earlier c (suc k) leg → SpanFed δ leg s s
span_same δ c k leg missing f = none-fed
span_same δ c k leg (sum s) f = sum-fed (fed-same δ c k window_length leg s f)

span-lifted : {δ : ℤ} {s s' : Span} → LiftedSpan δ s s' → SpanFed δ Outright s s'
span-lifted none = none-fed
span-lifted (some e) = sum-fed e

module _ (δ : ℤ) {d d' : Figures} (up_by : Lifted δ d d') (c : ℕ) (k k' : List ℕ) (known : Closes δ c k k') where
  lots-same : (i : ℕ) → lots_in (d'.trades i) ≡ lots_in (d.trades i)
  lots-same zero = up_by.lots
  lots-same (suc i) = ap lots_in (up_by.trades-stay i)

  value-fed : (i : ℕ) → Earlier c i (leg_of i) → Fed δ (lots_in (d.trades i)) (leg_of i) (value_in (d.trades i)) (value_in (d'.trades i))
  unfolding leg_of
  value-fed zero f = up_by.value
  value-fed (suc i) f = rw (up_by.trades-stay i) (fed-same δ c i (lots_in (d.trades (suc i))) (leg_of (suc i)) (value_in (d.trades (suc i))) f)

  span-fed : (i : ℕ) → Earlier c i (leg_of i) → SpanFed δ (leg_of i) (d.span i) (d'.span i)
  unfolding leg_of
  span-fed zero f = span-lifted up_by.span
  span-fed (suc i) f = rw (up_by.spans-stay i) (span_same δ c i (leg_of (suc i)) (d.span (suc i)) f)

  deals-moved : (i : ℕ) → Earlier c i (leg_of i) → deals_sum d'.marks k' i (d'.trades i) ≡ deals_sum d.marks k i (d.trades i) +ℤ pos (lots_in (d.trades i)) *ℤ δ
  deals-moved i f =
      rw (deals-are d'.marks k' i (d'.trades i), deals-are d.marks k i (d.trades i), lots-same i, up_by.marks)
      (implied-moved δ c k k' known d.marks i (lots_in (d.trades i)) (value_in (d.trades i)) (value_in (d'.trades i)) f (value-fed i f))

  lots-moved : (first n : ℕ) → vwap_lots d' first n ≡ vwap_lots d first n
  unfolding vwap_lots
  lots-moved first zero = refl
  lots-moved first (suc n) = ap₂ ◌+◌ (lots-moved first n) (lots-same (first + n))

  sum_moved : (first n : ℕ) → ((j : ℕ) → j < n → Earlier c (first + j) (leg_of (first + j))) → vwap_sum d' k' first n ≡ vwap_sum d k first n +ℤ pos (vwap_lots d first n) *ℤ δ
  unfolding vwap_sum vwap_lots
  sum_moved first zero f = show-≡ (is_pos 0) (is-+ (is_pos 0) (is-* 0 (is δ))) (omega arith)
  sum_moved first (suc n) f =
      let i = first + n in
      let t = vwap_sum d k first n in
      let w = vwap_lots d first n in
      let g = deals_sum d.marks k i (d.trades i) in
      let v = lots_in (d.trades i) in
      ap₂ ◌+ℤ◌ (sum_moved first n (λ j h. f j (omega arith))) (deals-moved i (f n (omega arith)))
      ∙ show-≡
      (is-+ (is-+ (is t) (is-* w (is δ))) (is-+ (is g) (is-* v (is δ))))
      (is-+ (is-+ (is t) (is g)) (is-* (w + v) (is δ)))
      (omega (arith, add-mul w v (up δ), add-mul w v (down δ)))

  span-moved : (i : ℕ) {s s' : Span} → Earlier c i (leg_of i) → SpanFed δ (leg_of i) s s' → MovedMean δ (twap_by d.marks k i s) (twap_by d'.marks k' i s')
  span-moved i f none-fed = no-mean
  span-moved i f (sum-fed {s} {s'} e) = mean-fed {w = window_length} (omega (arith, window-length)) (ap (λ (m : ℕ). implied_by m k' i window_length s') up_by.marks ∙ implied-moved δ c k k' known d.marks i window_length s s' f e)

  mean-moved : (r : Contract) → Ruled c r → MovedMean δ (mean_of d k r) (mean_of d' k' r)
  mean-moved r rule =
      rw (lots-moved r.first (r.past - r.first))
      (cond-moved (leb minimum_lots (lots_of d r))
      (λ h. mean-fed {w = lots_of d r} (omega (arith, leb-true minimum_lots (lots_of d r) h)) (sum_moved r.first (r.past - r.first) (λ j h. rule.legs (r.first + j) (omega arith) (omega arith))))
      (span-moved r.twap (rule.legs r.twap rule.order rule.among) (span-fed r.twap (rule.legs r.twap rule.order rule.among))))

-- the step divides δ
record Divides (u : ℕ) (δ : ℤ) : Type 0 where
  positive : 0 < u
  quotient : ℤ
  product : δ ≡ pos u *ℤ quotient

closed-moved : {δ : ℤ} (method : Method) (lots : ℕ) (z z' : ℤ) → z' ≡ z +ℤ δ → InRange (closed method lots (close_of z)) → InRange (closed method lots (close_of z')) → Moved δ (closed method lots (close_of z)) (closed method lots (close_of z'))
closed-moved {δ} method lots z z' e a b = by (view z) (view z')
  where
    by : View z → View z' → Moved δ (closed method lots (close_of z)) (closed method lots (close_of z'))
    by (price m p h q) (price m' p' h' q') = let s : pos m' ≡ pos m +ℤ δ = cc in rw (q, q') (lifts s)
    by (price m p h q) (no-price q') = absurd ((rw q' at b) refl)
    by (no-price q) w = absurd ((rw q at a) refl)

answered-moved : {δ : ℤ} {m m' : Option Mean} (u lots : ℕ) → Divides u δ → MovedMean δ m m' → InRange (answered u lots m) → InRange (answered u lots m') → Moved δ (answered u lots m) (answered u lots m')
answered-moved {δ} u lots v (mean-fed {method} {n} {n'} {w} h e) a b = closed-moved method lots (round n w u) (round n' w u) same a b
  where
    same : round n' w u ≡ round n w u +ℤ δ
    same = rw (e, v.product) (round-shift n w u h v.positive v.quotient)
answered-moved u lots v no-mean a b = stays

-- a contract's step divides what 3M's divides: it is 3M's, or 1 cent
step-three : (metal : ℕ) → step_of metal 3M ≡ (metal_of metal).step
unfolding step_of contract_of
step-three metal = refl

step-divides : {δ : ℤ} (metal c : ℕ) → c < 6 → Divides (step_of metal 3M) δ → Divides (step_of metal c) δ
unfolding step_of
step-divides {δ} metal c h v = by (eqb (contract_of c).step 0) refl
  where
    by : (t : Bool) → eqb (contract_of c).step 0 ≡ t → Divides (cond t (metal_of metal).step (contract_of c).step) δ
    by true e = rw (step-three metal) at v
    by false e =
        let one : (contract_of c).step ≡ 1 = omega (arith, (ruled c h).step, eqb-false (contract_of c).step 0 e) in
        rw one (record { positive = omega arith; quotient = δ; product = show-≡ (is δ) (is-* 1 (is δ)) (omega arith) })

row_moved : (δ : ℤ) {d d' : Figures} → Lifted δ d d' → Divides (step_of d.metal 3M) δ → (c : ℕ) (k k' : List ℕ) → Closes δ c k k' → c < 6 → InRange (row_answer d k c) → InRange (row_answer d' k' c) → Moved δ (row_answer d k c) (row_answer d' k' c)
unfolding row_answer
row_moved δ {d} {d'} up_by v c k k' known h a b =
    let r = contract_of c in
    let lots : lots_of d' r ≡ lots_of d r = lots-moved δ up_by c k k' known r.first (r.past - r.first) in
    let step : step_of d'.metal c ≡ step_of d.metal c = ap (λ (m : ℕ). step_of m c) up_by.metal in
    answered-at step lots (step-divides d.metal c h v) (mean-moved δ up_by c k k' known r (ruled c h)) a b
  where
    answered-at : {m m' : Option Mean} {u u' lots lots' : ℕ} → u' ≡ u → lots' ≡ lots → Divides u δ → MovedMean δ m m' → InRange (answered u lots m) → InRange (answered u' lots' m') → Moved δ (answered u lots m) (answered u' lots' m')
    answered-at {m} {m'} {u} {u'} {lots} {lots'} e f v n a b = rw (e, f) (answered-moved u lots v n a (rw (e, f) at b))

-- ---- the contracts, in pricing order

-- what is known before contract c: the closes are lifted, 3M's answer is, and as many contracts were refused
record Along (δ : ℤ) (c : ℕ) (k k' : Known) : Type 0 where
  stopped : k'.stopped ≡ k.stopped
  closes : k.stopped ≡ false → Closes δ c k.closes k'.closes
  three : 1 ≤ c → k.stopped ≡ false → Moved δ k.three k'.three
  long : length k.closes ≡ 6
  long' : length k'.closes ≡ 6

never : (A : Type 0) → true ≡ false → A
never A e = absurd (subst T e tt)

-- 3M's answer, where that of contract c is learnt
three-along : {δ : ℤ} {a a' : Told} (c : ℕ) (k k' : Known) → Along δ c k k' → k.stopped ≡ false → Moved δ a a' → Moved δ (learnt k c a).three (learnt k' c a').three
three-along zero k k' s e m = m
three-along (suc c) k k' s e m = rw (ne_eqb (suc c) 3M (λ q. omega arith)) (s.three (omega arith) e)

learnt-along : {δ : ℤ} {a a' : Told} (c : ℕ) (k k' : Known) → c < 6 → Along δ c k k' → k.stopped ≡ false → Moved δ a a' → Along δ (suc c) (learnt k c a) (learnt k' c a')
unfolding Closes
learnt-along {δ} c k k' h s e (lifts {m = m} {m' = m'} p) = record {
  stopped = refl;
  closes = λ q j l. by j l (ℕ_discrete j c);
  three = λ l q. three-along c k k' s e (lifts p);
  long = length-set k.closes c m ∙ s.long;
  long' = length-set k'.closes c m' ∙ s.long';
}
  where
    by : (j : ℕ) → j < suc c → Dec (j ≡ c) → pos (get_or (set k'.closes c m') j 0) ≡ pos (get_or (set k.closes c m) j 0) +ℤ δ
    by j l (yes q) = rw (q, get_or-set_same k.closes c m 0 (omega (arith, s.long)), get_or-set_same k'.closes c m' 0 (omega (arith, s.long'))) p
    by j l (no q) = rw (get_or-set_other k.closes c j m 0 q, get_or-set_other k'.closes c j m' 0 q) (s.closes e j (omega arith))
learnt-along c k k' h s e stays = record { stopped = refl; closes = λ q. never _ q; three = λ l q. never _ q; long = s.long; long' = s.long' }

-- no third value names 3M
pub three-unnamed : (third : ℕ) → named third 3M ≡ false
unfolding named is_in
three-unnamed zero = refl
three-unnamed (suc zero) = refl
three-unnamed (suc (suc zero)) = refl
three-unnamed (suc (suc (suc n))) = refl

module _ (δ : ℤ) {d d' : Figures} (up_by : Lifted δ d d') (v : Divides (step_of d.metal 3M) δ) where
  -- a contract that is reached, by whether 3M is that contract
  reached : (c : ℕ) (k k' : Known) → c < 6 → Along δ c k k' → k.stopped ≡ false → (n : Bool) → named d.third c ≡ n
      → InRange (cond n k.three (row_answer d k.closes c)) → InRange (cond n k'.three (row_answer d' k'.closes c))
      → Moved δ (cond n k.three (row_answer d k.closes c)) (cond n k'.three (row_answer d' k'.closes c))
  reached zero k k' h s e true q a b = never _ (sym q ∙ three-unnamed d.third)
  reached (suc c) k k' h s e true q a b = s.three (omega arith) e
  reached c k k' h s e false q a b = row_moved δ up_by v c k.closes k'.closes (s.closes e) h a b

  -- one contract
  step : (c : ℕ) (k k' : Known) → c < 6 → Along δ c k k' → InRange (answer_by d k c) → InRange (answer_by d' k' c)
      → Moved δ (answer_by d k c) (answer_by d' k' c) × Along δ (suc c) (learnt k c (answer_by d k c)) (learnt k' c (answer_by d' k' c))
  step c k k' h s a b = by k.stopped refl
    where
      by : (t : Bool) → k.stopped ≡ t → Moved δ (answer_by d k c) (answer_by d' k' c) × Along δ (suc c) (learnt k c (answer_by d k c)) (learnt k' c (answer_by d' k' c))
      by true e = rw (s.stopped, e) (stays, record { stopped = refl; closes = λ q. never _ q; three = λ l q. never _ q; long = s.long; long' = s.long' })
      by false e =
          let n = named d.third c in
          let p : answer_by d k c ≡ cond n k.three (row_answer d k.closes c) = rw e in
          let p' : answer_by d' k' c ≡ cond n k'.three (row_answer d' k'.closes c) = rw (s.stopped, e, up_by.third) in
          let m = reached c k k' h s e n refl (rw p at a) (rw p' at b) in
          rw (p, p') (m, learnt-along c k k' h s e m)

  along : (c : ℕ) → c ≤ 6 → ((j : ℕ) → j < c → InRange (answer_of d j) × InRange (answer_of d' j)) → Along δ c (known_at d c) (known_at d' c)
  unfolding known_at Closes
  along zero h f = record { stopped = refl; closes = λ e j l. absurd (omega arith); three = λ l e. absurd (omega arith); long = refl; long' = refl }
  along (suc c) h f = (step c (known_at d c) (known_at d' c) (omega arith) (along c (omega arith) (λ j l. f j (omega arith))) (f c (omega arith)).0 (f c (omega arith)).1).1

-- k whole steps; for each contract up to which neither has a 14
pub shift : (k : ℤ) (d d' : Figures) → 0 < step_of d.metal 3M → Lifted (pos (step_of d.metal 3M) *ℤ k) d d' → (c : ℕ) → c < 6
    → ((j : ℕ) → j ≤ c → InRange (answer_of d j) × InRange (answer_of d' j)) → Moved (pos (step_of d.metal 3M) *ℤ k) (answer_of d c) (answer_of d' c)
shift k d d' positive up_by c h f =
    let δ = pos (step_of d.metal 3M) *ℤ k in
    let v : Divides (step_of d.metal 3M) δ = record { positive = positive; quotient = k; product = refl } in
    let s = along δ up_by v c (omega arith) (λ j l. f j (omega arith)) in
    (step δ up_by v c (known_at d c) (known_at d' c) h s (f c (omega arith)).0 (f c (omega arith)).1).0
