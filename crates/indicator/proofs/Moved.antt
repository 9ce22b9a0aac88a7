-- Two laws of the sum. Where every price of an instrument is moved by δ, its indicator is moved by δ at each millisecond of the window,
-- and its sum by 300,000·δ. Where every price is negated and bid and offer change places, as of a spread quoted the other way round, the
-- indicator and the sum are negated; that needs a bid that is not above the offer, as in every accepted sheet.
--     shifted_at, shifted     of fields moved by δ: the indicator at a millisecond, the sum
--     turned-at, turned       the same of fields turned round
-- Assumes nothing.
use Rattle.std.specs.Prelude.{ℕ, ◌/◌, ◌%◌, ◌≤◌, ◌≡◌, refl, Bool, true, false, cond, T, leb, eqb, ℤ, pos, neg_ℤ, ◌+ℤ◌, ◌*ℤ◌, ◌≤ℤ◌, Option, Some, None}
use Rattle.std.proofs.Common.{ap, ◌∙◌, arith}
use mathlib.Core.List.{List, [], ◌∷◌, map}
use Rattle.std.specs.Int.Signed.{lt_z, le_z, lt_z_yes, le_z_yes}
use Rattle.cents.specs.laws.Whole.{is, is-+, is-neg, show-<, read-<, read-≤}
use Rattle.field.specs.declared.Price.{Price}
use Rattle.field.specs.declared.Field.{Field}
use Rattle.field.specs.declared.Field.TheVariants.{Header, PreviousClose, Trade, Quote, End}
use Rattle.field.specs.Judging.{both, pick, has_bid, has_offer, ordered}
use Rattle.market.specs.Market.{window_length}
use Rattle.indicator.specs.declared.Indicator.{Indicator}
use Rattle.indicator.specs.Indicator.{side_of, present, cents_of, empty, after_trade, after_close, after_quote, below, below_offer, inside_book, value_by, value_of, taken, after_from, after, cents_at, twap_sum, has_reference}
use Rattle.indicator.specs.laws.Sums.{sum-cong, sum-shift, sum-neg}
use Rattle.indicator.proofs.State.{reference-stays}
use Rattle.field.specs.Repriced.{changed, shift_price, shift_sides, shift_field, turn_price, turn_sides, turn_field}
use Rattle.indicator.specs.laws.Changed.{on_side, on-present, on-else, cond_map, repriced-keeps, repriced-along, after-changed}

-- no quote has a bid above its offer
abbrev pub Fair : List Field → Type 0
Fair [] = Unit {0}
Fair (Header metal marks form ∷ fs) = Fair fs
Fair (PreviousClose instrument price ∷ fs) = Fair fs
Fair (Trade time instrument price lots ∷ fs) = Fair fs
Fair (Quote time instrument sides bid offer ∷ fs) = (ordered sides bid offer ≡ true) × Fair fs
Fair (End count ∷ fs) = Fair fs

-- ---- tests of two numbers that are both moved, and both negated

same_test : (a b : Bool) → (T a → T b) → (T b → T a) → a ≡ b
same_test true true f g = refl
same_test true false f g = absurd (f tt)
same_test false true f g = absurd (g tt)
same_test false false f g = refl

lt_z-shift : (a b k : ℤ) → lt_z (a +ℤ k) (b +ℤ k) ≡ lt_z a b
lt_z-shift a b k =
    same_test (lt_z (a +ℤ k) (b +ℤ k)) (lt_z a b)
    (λ t. (show-< (is a) (is b) (omega (arith, read-< (is-+ (is a) (is k)) (is-+ (is b) (is k)) (lt_z_yes t)))).lt)
    (λ t. (show-< (is-+ (is a) (is k)) (is-+ (is b) (is k)) (omega (arith, read-< (is a) (is b) (lt_z_yes t)))).lt)

lt_z-neg : (a b : ℤ) → lt_z (neg_ℤ a) (neg_ℤ b) ≡ lt_z b a
lt_z-neg a b =
    same_test (lt_z (neg_ℤ a) (neg_ℤ b)) (lt_z b a)
    (λ t. (show-< (is b) (is a) (omega (arith, read-< (is-neg (is a)) (is-neg (is b)) (lt_z_yes t)))).lt)
    (λ t. (show-< (is-neg (is a)) (is-neg (is b)) (omega (arith, read-< (is b) (is a) (lt_z_yes t)))).lt)

-- ---- every price moved

module _ (δ : ℤ) where
  abbrev shiftSide : Option Price → Option Price
  shiftSide r = on_side (shift_price δ) r

  abbrev shiftState : Indicator → Indicator
  shiftState s = record { reference = shiftSide s.reference; bid = shiftSide s.bid; offer = shiftSide s.offer }

  shift-side : (here : Bool) (p : Price) → side_of here (cond here (shift_price δ p) p) ≡ shiftSide (side_of here p)
  shift-side true p = refl
  shift-side false p = refl

  shift-choice : (a b x y : Price) → cond (below (shift_price δ a) (shift_price δ b)) (shift_price δ x) (shift_price δ y) ≡ shift_price δ (cond (below a b) x y)
  shift-choice a b x y = ap (λ (t : Bool). cond t (shift_price δ x) (shift_price δ y)) (lt_z-shift a.cents b.cents δ) ∙ cond_map (shift_price δ) (below a b) x y

  shift-offer : (p : Price) (o : Option Price) → below_offer (shift_price δ p) (shiftSide o) ≡ shift_price δ (below_offer p o)
  shift-offer p None = refl
  shift-offer p (Some o) = shift-choice o p o p

  shift-book : (p : Price) (b o : Option Price) → inside_book (shift_price δ p) (shiftSide b) (shiftSide o) ≡ shift_price δ (inside_book p b o)
  shift-book p None o = shift-offer p o
  shift-book p (Some b) o = ap (λ (x : Price). cond (below (shift_price δ p) (shift_price δ b)) (shift_price δ b) x) (shift-offer p o) ∙ shift-choice p b b (below_offer p o)

  shift-value : (r b o : Option Price) → T (present r) → cents_of (value_by (shiftSide r) (shiftSide b) (shiftSide o)) ≡ cents_of (value_by r b o) +ℤ δ
  shift-value None b o h = absurd h
  shift-value (Some p) b o h = ap (λ (q : Price). q.cents) (shift-book p b o)

pub shifted-state : (i : ℕ) (δ : ℤ) (fs : List Field) (t : ℕ) → after i t (map (changed i (shift_field δ)) fs) ≡ shiftState δ (after i t fs)
shifted-state i δ fs t =
    after-changed i (shift_field δ) (shiftState δ) (repriced-keeps (shift_price δ) (shift_sides δ))
    (repriced-along i (shift_price δ) (shift_sides δ) (shiftState δ) (λ s p. simp (on-else (shift_price δ) s.reference p)) (λ s p. refl) (λ s n b o. simp (shift-side δ (has_bid n) b, shift-side δ (has_offer n) o)))
    refl t fs

module _ (i start : ℕ) (δ : ℤ) (fs : List Field) where
  pub shifted-reference : has_reference i start (map (changed i (shift_field δ)) fs) ≡ has_reference i start fs
  shifted-reference = ap (λ (s : Indicator). present s.reference) (shifted-state i δ fs start) ∙ on-present (shift_price δ) (after i start fs).reference

  pub shifted_at : (t : ℕ) → start ≤ t → T (has_reference i start fs) → cents_at i (map (changed i (shift_field δ)) fs) t ≡ cents_at i fs t +ℤ δ
  shifted_at t l h =
      ap (λ (s : Indicator). cents_of (value_of s)) (shifted-state i δ fs t)
      ∙ let s = after i t fs in shift-value δ s.reference s.bid s.offer (reference-stays i start t fs l h)

  pub shifted : T (has_reference i start fs) → twap_sum i start (map (changed i (shift_field δ)) fs) ≡ twap_sum i start fs +ℤ pos window_length *ℤ δ
  shifted h = sum-cong _ _ start window_length (λ j l b. shifted_at j l h) ∙ sum-shift (cents_at i fs) δ start window_length

-- ---- every price negated, and the sides exchanged

abbrev turn_side : Option Price → Option Price
turn_side r = on_side turn_price r

abbrev turn_state : Indicator → Indicator
turn_state s = record { reference = turn_side s.reference; bid = turn_side s.offer; offer = turn_side s.bid }

-- a side whose bit stands at another place
turn-side : (n k : ℕ) (p : Price) → n ≡ k → side_of (eqb n 1) (turn_price p) ≡ turn_side (side_of (eqb k 1) p)
turn-side n k p e = rw e (by-test (eqb k 1))
  where
    by-test : (here : Bool) → side_of here (turn_price p) ≡ turn_side (side_of here p)
    by-test true = refl
    by-test false = refl

turn-quote : (s : Indicator) (n : ℕ) (b o : Price) → after_quote (turn_state s) (turn_sides n b o).sides (turn_price o) (turn_price b) ≡ turn_state (after_quote s n b o)
turn-quote s n b o =
    let turned = (turn_sides n b o).sides in
    simp (turn-side (turned % 2) (n / 2 % 2) o (omega arith), turn-side (turned / 2 % 2) (n % 2) b (omega arith))

turn-choice : (a b x y : Price) → cond (below (turn_price a) (turn_price b)) (turn_price x) (turn_price y) ≡ turn_price (cond (below b a) x y)
turn-choice a b x y = ap (λ (t : Bool). cond t (turn_price x) (turn_price y)) (lt_z-neg a.cents b.cents) ∙ cond_map turn_price (below b a) x y

-- of two tests that never both pass, either may be asked first
either_first : (x y : Bool) (a b c : Price) → (T x → T y → ⊥) → cond x a (cond y b c) ≡ cond y b (cond x a c)
either_first true true a b c h = absurd (h tt tt)
either_first true false a b c h = refl
either_first false true a b c h = refl
either_first false false a b c h = refl

-- a bid is not above an offer, where both are there
abbrev pub Uncrossed : Option Price → Option Price → Type 0
Uncrossed None o = Unit {0}
Uncrossed (Some b) None = Unit {0}
Uncrossed (Some b) (Some o) = b.cents ≤ℤ o.cents

-- then no price is both below the bid and above the offer
apart : (p b o : Price) → b.cents ≤ℤ o.cents → T (below o p) → T (below p b) → ⊥
apart p b o h x y =
    let u = read-< (is o.cents) (is p.cents) (lt_z_yes x) in
    let v = read-< (is p.cents) (is b.cents) (lt_z_yes y) in
    omega (arith, read-≤ (is b.cents) (is o.cents) h)

turn-book : (p : Price) (b o : Option Price) → Uncrossed b o → inside_book (turn_price p) (turn_side o) (turn_side b) ≡ turn_price (inside_book p b o)
turn-book p None None h = refl
turn-book p None (Some o) h = turn-choice p o o p
turn-book p (Some b) None h = turn-choice b p b p
turn-book p (Some b) (Some o) h =
    ap (λ (x : Price). cond (below (turn_price p) (turn_price o)) (turn_price o) x) (turn-choice b p b p) ∙ turn-choice p o o (cond (below p b) b p)
    ∙ ap turn_price (either_first (below o p) (below p b) o b p (apart p b o h))

turn-value : (r b o : Option Price) → Uncrossed b o → cents_of (value_by (turn_side r) (turn_side o) (turn_side b)) ≡ neg_ℤ (cents_of (value_by r b o))
turn-value None b o h = refl
turn-value (Some p) b o h = ap (λ (q : Price). q.cents) (turn-book p b o h)

-- fair quotes leave a fair book
fair-sides : (sides : ℕ) (bid offer : Price) → ordered sides bid offer ≡ true → Uncrossed (side_of (has_bid sides) bid) (side_of (has_offer sides) offer)
unfolding both pick
fair-sides sides bid offer e = by-sides (has_bid sides) (has_offer sides) e
  where
    by-sides : (b o : Bool) → pick (both b o) (le_z bid.cents offer.cents) true ≡ true → Uncrossed (side_of b bid) (side_of o offer)
    by-sides true true e = le_z_yes (rw e tt)
    by-sides true false e = tt
    by-sides false o e = tt

fair-choice : (t : Bool) (x y : Indicator) → Uncrossed x.bid x.offer → Uncrossed y.bid y.offer → Uncrossed (cond t x y).bid (cond t x y).offer
fair-choice true x y h k = h
fair-choice false x y h k = k

module _ (i t : ℕ) where
  fair-from : (s : Indicator) (fs : List Field) → Fair fs → Uncrossed s.bid s.offer → Uncrossed (after_from i t s fs).bid (after_from i t s fs).offer
  unfolding after_from taken
  fair-from s [] f h = h
  fair-from s (Header metal marks form ∷ fs) f h = fair-from (cond (leb 0 t) s s) fs f (fair-choice (leb 0 t) s s h h)
  fair-from s (PreviousClose instrument price ∷ fs) f h =
      let new = after_close s price in
      fair-from (cond (leb 0 t) (cond (eqb instrument i) new s) s) fs f (fair-choice (leb 0 t) (cond (eqb instrument i) new s) s (fair-choice (eqb instrument i) new s h h) h)
  fair-from s (Trade time instrument price lots ∷ fs) f h =
      let new = after_trade s price in
      fair-from (cond (leb time t) (cond (eqb instrument i) new s) s) fs f (fair-choice (leb time t) (cond (eqb instrument i) new s) s (fair-choice (eqb instrument i) new s h h) h)
  fair-from s (Quote time instrument sides bid offer ∷ fs) f h =
      let new = after_quote s sides bid offer in
      fair-from (cond (leb time t) (cond (eqb instrument i) new s) s) fs f.1 (fair-choice (leb time t) (cond (eqb instrument i) new s) s (fair-choice (eqb instrument i) new s (fair-sides sides bid offer f.0) h) h)
  fair-from s (End count ∷ fs) f h = fair-from (cond (leb 0 t) s s) fs f (fair-choice (leb 0 t) s s h h)

  pub fair-book : (fs : List Field) → Fair fs → Uncrossed (after i t fs).bid (after i t fs).offer
  fair-book fs f = fair-from empty fs f tt

module _ (i : ℕ) (fs : List Field) where
  pub turned-state : (t : ℕ) → after i t (map (changed i turn_field) fs) ≡ turn_state (after i t fs)
  turned-state t =
      after-changed i turn_field turn_state (repriced-keeps turn_price turn_sides)
      (repriced-along i turn_price turn_sides turn_state (λ s p. simp (on-else turn_price s.reference p)) (λ s p. refl) turn-quote)
      refl t fs

  pub turned-reference : (start : ℕ) → has_reference i start (map (changed i turn_field) fs) ≡ has_reference i start fs
  turned-reference start = ap (λ (s : Indicator). present s.reference) (turned-state start) ∙ on-present turn_price (after i start fs).reference

  pub turned-at : (t : ℕ) → Fair fs → cents_at i (map (changed i turn_field) fs) t ≡ neg_ℤ (cents_at i fs t)
  turned-at t f =
      ap (λ (s : Indicator). cents_of (value_of s)) (turned-state t)
      ∙ let s = after i t fs in turn-value s.reference s.bid s.offer (fair-book i t fs f)

  pub turned : (start : ℕ) → Fair fs → twap_sum i start (map (changed i turn_field) fs) ≡ neg_ℤ (twap_sum i start fs)
  turned start f = sum-cong _ _ start window_length (λ j l b. turned-at j f) ∙ sum-neg (cents_at i fs) start window_length
