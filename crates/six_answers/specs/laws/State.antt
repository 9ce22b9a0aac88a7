-- What is known before each contract: every close that is known is a close, and one step of the code is one step of the definition.
--     view             a rounded price is a close from 1 to 99,999,999, or 14
--     known-bounded    every close that is known is at most 99,999,999
--     Stands           the code's state before a contract: at the first, one step on, and behind the last
-- Assumes nothing.
use Rattle.std.specs.Prelude.{◌≡◌, refl, Bool, true, false, ◌&&◌, cond, List, [], ◌∷◌, ℕ, zero, suc, ◌+◌, ◌≤◌, ◌<◌, T, leb, eqb, length, set, replicate, ℤ, pos, negsuc, Option, Some, None, Result, Ok}
use Rattle.std.proofs.Math.Path.{ap}
use Rattle.std.proofs.Common.{◌∙◌, arith, ne_eqb, leb→le, get_or-set_same, get_or-set_other}
use Rattle.std.proofs.Math.Numerals.{add-one}
use Rattle.std.proofs.Math.Decide.{dec_lt}
use Rattle.std.proofs.Math.ListN.{get_or, length-set}
use Rattle.std.proofs.lemmas.List.{set-get_or}
use Rattle.market.specs.Market.{3M, contract_of, step_of, named}
use Rattle.cents.specs.Round.{round}
use Rattle.cents.specs.Close.{close_of}
use Rattle.cents.specs.Close as cents
use Rattle.price_rules.specs.declared.Method.{Method}
use Rattle.price_rules.specs.declared.Method.TheVariants.{Vwap}
use Rattle.price_rules.specs.declared.Mean.{Mean}
use Rattle.price_rules.specs.declared.Priced.{Priced}
use Rattle.price_rules.specs.declared.Unpriced.{Unpriced}
use Rattle.price_rules.specs.declared.SixAnswers.{SixAnswers}
use Rattle.price_rules.specs.Closing.{Figures, lots_of, mean_of, Told, close, refused, closed, answered, row_answer, Known, answer_by, closes_with, learnt, nothing_known, known_at, answer_of, closings_of}
use Rattle.price_rules.specs.laws.Sizes.{Bounded, bounded-set, Small}
use Rattle.price_rules.specs.declared.Known as code
use Rattle.price_rules.specs.Says.{answer_says, known_says, closings_say}

-- ---- a rounded price

pub data View (z : ℤ) : Type 0 where
  price : (m : ℕ) → z ≡ pos m → m ≤ 99999999 → close_of z ≡ cents.close m → View z
  no-price : close_of z ≡ cents.refused 14 → View z

and_right : (a b : Bool) → T (a && b) → T b
and_right true b t = t
and_right false b t = absurd t

pub view : (z : ℤ) → View z
unfolding close_of
view (pos m) = by (leb 1 m && leb m 99999999) refl
  where
    by : (t : Bool) → (leb 1 m && leb m 99999999) ≡ t → View (pos m)
    by true e = price m refl (leb→le m 99999999 (and_right (leb 1 m) (leb m 99999999) (rw e tt))) (rw e)
    by false e = no-price (rw e)
view (negsuc m) = no-price refl

-- ---- every close that is known is a close

closed-small : (method : Method) (lots : ℕ) (z : ℤ) → Small (closed method lots (close_of z))
closed-small method lots z = by (view z)
  where
    by : View z → Small (closed method lots (close_of z))
    by (price m e h c) = rw c h
    by (no-price c) = rw c tt

answered-small : (step lots : ℕ) (m : Option Mean) → Small (answered step lots m)
answered-small step lots (Some m) = closed-small m.method lots (round m.sum m.weight step)
answered-small step lots None = tt

row_small : (day : Figures) (closes : List ℕ) (c : ℕ) → Small (row_answer day closes c)
unfolding row_answer
row_small day closes c = answered-small (step_of day.metal c) (lots_of day (contract_of c)) (mean_of day closes (contract_of c))

answer-small : (day : Figures) (k : Known) (c : ℕ) → Small k.three → Small (answer_by day k c)
answer-small day k c h = by k.stopped (named day.third c)
  where
    by : (t n : Bool) → Small (cond t (refused 15 0) (cond n k.three (row_answer day k.closes c)))
    by true n = tt
    by false true = h
    by false false = row_small day k.closes c

closes-bounded : (closes : List ℕ) (c : ℕ) (a : Told) → Bounded closes → Small a → Bounded (closes_with closes c a)
closes-bounded closes c (close method m lots) b s = bounded-set b c m s
closes-bounded closes c (refused number lots) b s = b

-- what is known of a contract, 3M's answer too, has only closes
record AllSmall (k : Known) : Type 0 where
  closes : Bounded k.closes
  three : Small k.three

learnt-small : (k : Known) (c : ℕ) (a : Told) → AllSmall k → Small a → AllSmall (learnt k c a)
learnt-small k c a b s = record { closes = closes-bounded k.closes c a b.closes s; three = by (eqb c 3M) }
  where
    by : (t : Bool) → Small (cond t a k.three)
    by true = s
    by false = b.three

none-set : (n c : ℕ) → ◌≡◌ {A = ℕ} (get_or (replicate n 0) c 0) 0
none-set zero c = refl
none-set (suc n) zero = refl
none-set (suc n) (suc c) = none-set n c

known_small : (day : Figures) (c : ℕ) → AllSmall (known_at day c)
unfolding known_at
known_small day zero = record { closes = record { small = λ c. omega (arith, none-set 6 c) }; three = tt }
known_small day (suc c) = let k = known_small day c in learnt-small (known_at day c) c (answer_by day (known_at day c) c) k (answer-small day (known_at day c) c k.three)

pub known-bounded : (day : Figures) (c : ℕ) → Bounded (known_at day c).closes
known-bounded day c = (known_small day c).closes

-- ---- one step of the code

-- the close of an answer, 0 where it has none
abbrev pub close_in : Told → ℕ
close_in (close method m lots) = m
close_in (refused number lots) = 0

-- a contract that is still to be priced has no close
with-unset : (closes : List ℕ) (c : ℕ) (a : Told) (j : ℕ) → c < j → get_or closes j 0 ≡ 0 → get_or (closes_with closes c a) j 0 ≡ 0
with-unset closes c (close method m lots) j h e = get_or-set_other closes c j m 0 (λ f. omega arith) ∙ e
with-unset closes c (refused number lots) j h e = e

unset : (day : Figures) (c j : ℕ) → c ≤ j → get_or (known_at day c).closes j 0 ≡ 0
unfolding known_at
unset day zero j h = none-set 6 j
unset day (suc c) j h = with-unset (known_at day c).closes c (answer_by day (known_at day c) c) j (omega arith) (unset day c j (omega arith))

-- so that the close is what is learnt at its place, 0 where there is none
with-is : (closes : List ℕ) (c : ℕ) (a : Told) → get_or closes c 0 ≡ 0 → set closes c (close_in a) ≡ closes_with closes c a
with-is closes c (close method m lots) e = refl
with-is closes c (refused number lots) e = rw e at (set-get_or closes c 0)

-- no place of it goes
with-long : (closes : List ℕ) (c : ℕ) (a : Told) → length (closes_with closes c a) ≡ length closes
with-long closes c (close method m lots) = length-set closes c m
with-long closes c (refused number lots) = refl

-- what is known, from its parts
abbrev pub known_by : List ℕ → Bool → Told → Known
known_by closes stopped three = record { closes = closes; stopped = stopped; three = three }

-- an array of six answers by name; what its `get_or` gives past the end is never asked
abbrev pub at : List (Result Priced Unpriced) → ℕ → Result Priced Unpriced
at six c = get_or six c (Ok (record { method = Vwap; close = 0; lots = 0 }))

abbrev pub by_name : List (Result Priced Unpriced) → SixAnswers
by_name six = record { three = at six 0; m3 = at six 1; m2 = at six 2; m4 = at six 3; m1 = at six 4; cash = at six 5 }

closings-are : (day : Figures) {a b c d e f : Told} → a ≡ answer_of day 0 → b ≡ answer_of day 1 → c ≡ answer_of day 2 → d ≡ answer_of day 3 → e ≡ answer_of day 4 → f ≡ answer_of day 5 → a ∷ b ∷ c ∷ d ∷ e ∷ f ∷ [] ≡ closings_of day
unfolding closings_of
closings-are day p q r s t u = cc

-- before contract c: what is known, and the answers so far
pub record Stands (day : Figures) (k : code.Known) (six : List (Result Priced Unpriced)) (c : ℕ) : Type 0 where
  pub within : c ≤ 6
  pub closes-long : length k.closes.cents ≡ 6
  pub six-long : length six ≡ 6
  pub known : known_says k ≡ known_at day c
  pub told : (j : ℕ) (d : Result Priced Unpriced) → j < c → answer_says (get_or six j d) ≡ answer_of day j

-- 3M's answer, where that of contract c is written
three-with : (six : List (Result Priced Unpriced)) (c : ℕ) (a : Result Priced Unpriced) → length six ≡ 6 → answer_says (at (set six c a) 0) ≡ cond (eqb c 3M) (answer_says a) (answer_says (at six 0))
three-with [] c a h = absurd (omega arith)
three-with (x ∷ l) zero a h = refl
three-with (x ∷ l) (suc c) a h = rw (ne_eqb (suc c) 3M (λ e. omega arith)) refl

pub stands-first : (day : Figures) {known : code.Known} (six : List (Result Priced Unpriced)) → length six ≡ 6 → known_says known ≡ nothing_known → Stands day known six 0
unfolding known_at
stands-first day six e n = record { within = omega arith; closes-long = ap (λ (k : Known). length k.closes) n; six-long = e; known = n; told = λ j d h. absurd (omega arith) }

module _ (day : Figures) {known : code.Known} {six : List (Result Priced Unpriced)} {c : ℕ} (s : Stands day known six c) where
  pub stands-bounded : Bounded known.closes.cents
  stands-bounded = rw (← ap (λ (k : Known). k.closes) s.known) at (known-bounded day c)

  module _ (a : Result Priced Unpriced) (e : answer_says a ≡ answer_by day (known_says known) c) where
    answer : answer_says a ≡ answer_of day c
    answer = e ∙ ap (λ (k : Known). answer_by day k c) s.known

    -- the close of the answer is a close
    pub stands-small : Small (answer_says a)
    stands-small = rw answer (answer-small day (known_at day c) c (known_small day c).three)

    pub stands-next : {next : code.Known} → c < 6 → known_says next ≡ learnt (known_says known) c (answer_says a) → Stands day next (set six c a) (c + 1)
    unfolding known_at
    stands-next {next} h f = record {
      within = omega arith;
      closes-long = ap (λ (k : Known). length k.closes) f ∙ with-long known.closes.cents c (answer_says a) ∙ s.closes-long;
      six-long = length-set six c a ∙ s.six-long;
      known = rw (add-one c) (f ∙ ap (λ (k : Known). learnt k c (answer_says a)) s.known ∙ ap (learnt (known_at day c) c) answer);
      told = λ j d l. by_place j d (dec_lt j c) l;
    }
      where
        by_place : (j : ℕ) (d : Result Priced Unpriced) → Dec (j < c) → j < c + 1 → answer_says (get_or (set six c a) j d) ≡ answer_of day j
        by_place j d (yes l) k = ap answer_says (get_or-set_other six c j a d (λ f. omega arith)) ∙ s.told j d l
        by_place j d (no l) k = let same : j ≡ c = omega arith in rw same (ap answer_says (get_or-set_same six c a d (omega (arith, s.six-long))) ∙ answer)

  pub stands-all : 6 ≤ c → closings_say (by_name six) ≡ closings_of day
  stands-all h = closings-are day (s.told 0 _ (omega arith)) (s.told 1 _ (omega arith)) (s.told 2 _ (omega arith)) (s.told 3 _ (omega arith)) (s.told 4 _ (omega arith)) (s.told 5 _ (omega arith))
