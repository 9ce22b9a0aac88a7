-- What holds of every row of the tables: the contracts' instruments are those that price them, from contracts priced before.
--     priced_of     the contract that an instrument prices: the later of its two
--     agree        the two tables agree: an instrument is among a contract's VWAP instruments exactly where it prices that contract
--     ruled        of each contract: its TWAP instrument is among its VWAP instruments, and their other legs are priced earlier
--     follows      every metal's anchor window follows its spread window
--     start-early  no window starts after Lead's anchor window, so that none runs past the day
--     step-some    every step is 1 cent or more
-- Assumes nothing.
use Rattle.std.specs.Prelude.{ℕ, suc, ◌+◌, ◌≤◌, ◌<◌, max, ◌≡◌, refl, Bool, true, false, ◌&&◌, not, cond, List, [], T, leb, ltb, eqb, get_or}
use Rattle.std.proofs.Common.{sym, subst, ◌∙◌, le_trans, arith, le-leb, lt-ltb, eqb-true, leb→le, ltb→lt, eqb→eq}
use Rattle.std.proofs.Math.Decide.{dec_lt}
use Rattle.std.proofs.lemmas.Bool.{eqb-false}
use Rattle.market.specs.declared.Metal.{Metal}
use Rattle.market.specs.declared.Leg.{Leg}
use Rattle.market.specs.declared.Leg.TheVariants.{Outright, Over, Under}
use Rattle.market.specs.declared.Contract.{Contract}
use Rattle.market.specs.Market.{metal_of, contract_of, instruments, leg_of, start_of, step_of, window_length}
use Rattle.market.specs.laws.Rows.{window-length}
use Rattle.market.specs.laws.Table.{up_to, below, from_one}
use Rattle.market.specs.laws.Rows.{metal-none}

-- ---- the two tables agree

abbrev priced_by : List ℕ → ℕ
priced_by row = max (get_or row 0 0) (get_or row 1 0)

-- the contract that an instrument prices: the later of A and B
unfoldable pub priced_of : ℕ → ℕ
priced_of i = priced_by (get_or instruments i [])

-- the instrument is one of the contract's VWAP instruments
abbrev pub uses : Contract → ℕ → Bool
uses r i = leb r.first i && ltb i r.past

abbrev same : Bool → Bool → Bool
same true b = b
same false b = not b

same-is : (a b : Bool) → T (same a b) → a ≡ b
same-is true true t = refl
same-is true false t = absurd t
same-is false true t = absurd t
same-is false false t = refl

-- at contract c and instrument i
abbrev agreeing : ℕ → ℕ → Bool
agreeing c i = same (uses (contract_of c) i) (eqb (priced_of i) c)

pub agree : (c i : ℕ) → c < 6 → i < 12 → uses (contract_of c) i ≡ eqb (priced_of i) c
unfolding contract_of priced_of
agree c i h k =
    same-is (uses (contract_of c) i) (eqb (priced_of i) c)
    (below (agreeing c) 12 i (below (λ c. up_to (agreeing c) 12) 6 c tt h) k)

-- ---- what a contract's row says

-- what instrument i needs to be known before contract c is priced: the other leg is priced earlier; only instrument 0 has none
abbrev pub Earlier : ℕ → ℕ → Leg → Type 0
Earlier c i Outright = i ≡ 0
Earlier c i (Over o) = o < c
Earlier c i (Under o) = o < c

abbrev earlier : ℕ → ℕ → Leg → Bool
earlier c i Outright = eqb i 0
earlier c i (Over o) = ltb o c
earlier c i (Under o) = ltb o c

earlier-is : (c i : ℕ) (leg : Leg) → T (earlier c i leg) → Earlier c i leg
earlier-is c i Outright t = eqb→eq i 0 t
earlier-is c i (Over o) t = ltb→lt o c t
earlier-is c i (Under o) t = ltb→lt o c t

-- an instrument's other leg is priced before the contract that it prices
pub leg-earlier : (i : ℕ) → i < 12 → Earlier (priced_of i) i (leg_of i)
unfolding priced_of leg_of
leg-earlier i h = earlier-is (priced_of i) i (leg_of i) (below (λ i. earlier (priced_of i) i (leg_of i)) 12 i tt h)

pub record Ruled (c : ℕ) (r : Contract) : Type 0 where
  pub order : r.first ≤ r.twap
  pub among : r.twap < r.past
  pub inside : r.past ≤ 12
  pub step : r.step ≤ 1
  pub legs : (i : ℕ) → r.first ≤ i → i < r.past → Earlier c i (leg_of i)

-- the test f passes at the row of each contract
by_row : (f : Contract → Bool) → T (up_to (λ c. f (contract_of c)) 6) → (c : ℕ) → c < 6 → T (f (contract_of c))
by_row f t c h = below (λ c. f (contract_of c)) 6 c t h

pub ruled : (c : ℕ) → c < 6 → Ruled c (contract_of c)
unfolding contract_of
ruled c h = record {
  order = leb→le _ _ (by_row (λ r. leb r.first r.twap) tt c h);
  among = ltb→lt _ _ (by_row (λ r. ltb r.twap r.past) tt c h);
  inside = inside;
  step = leb→le _ _ (by_row (λ r. leb r.step 1) tt c h);
  legs = λ i l k. subst (λ (p : ℕ). Earlier p i (leg_of i)) (priced i l k) (leg-earlier i (le_trans k inside));
}
  where
    inside : (contract_of c).past ≤ 12
    inside = leb→le _ _ (by_row (λ r. leb r.past 12) tt c h)

    priced : (i : ℕ) → (contract_of c).first ≤ i → i < (contract_of c).past → priced_of i ≡ c
    priced i l k = eqb-true (priced_of i) c (sym (agree c i h (le_trans k inside)) ∙ simp (le-leb _ _ l, lt-ltb _ _ k))

-- ---- what a metal's row says

-- the test f passes at the row of each metal
by-metal : (f : Metal → Bool) → T (up_to (λ m. f (metal_of (suc m))) 5) → (m : ℕ) → 1 ≤ m → m ≤ 5 → T (f (metal_of m))
by-metal f t m l h = from_one (λ m. f (metal_of m)) 5 m t l h

pub follows : (m : ℕ) → 1 ≤ m → m ≤ 5 → (metal_of m).anchor ≡ (metal_of m).spread + window_length
unfolding metal_of
follows m l h = eqb→eq _ _ (by-metal (λ r. eqb r.anchor (r.spread + 300000)) tt m l h) ∙ rw window-length

-- a test of a metal's row that zeros pass too holds of every metal
by-any-metal : (f : Metal → Bool) → T (up_to (λ m. f (metal_of m)) 6) → (m : ℕ) → T (f (metal_of m))
unfolding metal_of
by-any-metal f t m = by_last (dec_lt m 6)
  where
    none : T (f (metal_of 0))
    none = below (λ m. f (metal_of m)) 6 0 t (omega arith)

    by_last : Dec (m < 6) → T (f (metal_of m))
    by_last (yes l) = below (λ m. f (metal_of m)) 6 m t l
    by_last (no l) = rw (sym (metal-none m (omega arith))) none

pub start-early : (m i : ℕ) → start_of m i ≤ 60900000
unfolding metal_of start_of
start-early m i = by-window (eqb i 0)
  where
    by-window : (b : Bool) → cond b (metal_of m).anchor (metal_of m).spread ≤ 60900000
    by-window true = leb→le _ _ (by-any-metal (λ r. leb r.anchor 60900000) tt m)
    by-window false = leb→le _ _ (by-any-metal (λ r. leb r.spread 60900000) tt m)

pub step-some : (m c : ℕ) → 1 ≤ m → m ≤ 5 → 0 < step_of m c
unfolding metal_of step_of
step-some m c l h = by-test (eqb (contract_of c).step 0) refl
  where
    by-test : (b : Bool) → eqb (contract_of c).step 0 ≡ b → 0 < cond b (metal_of m).step (contract_of c).step
    by-test true e = ltb→lt _ _ (by-metal (λ r. ltb 0 r.step) tt m l h)
    by-test false e = omega (arith, eqb-false (contract_of c).step 0 e)
