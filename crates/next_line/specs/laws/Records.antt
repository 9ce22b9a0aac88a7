-- The pieces of a trade's and of a quote's line, as the code finds them one behind the other. Assumes nothing.
use Rattle.std.specs.Prelude.{◌≡◌, ℕ, zero, suc, ◌+◌, ◌-◌, ◌*◌, ◌^◌, ◌<◌, ◌≤◌, Bool, true, false, cond, List, [], ◌∷◌, ◌++◌, length, take, drop, ℤ, pos, ◌-ℤ◌, neg_ℤ, FitsSigned, ◌==◌, slice_index, slice_range, unsigned_abs, refl, Option, Some, None, IfSome}
use Rattle.std.proofs.Common.{sym, ap, ◌∙◌, subst, arith, to_z, of_z, Fits, to_z-of_z, eqb-true}
use Rattle.std.specs.Int.{w8, w32}
use Rattle.std.proofs.Math.Facts.{to_z_pos}
use Rattle.std.proofs.lemmas.Bool.{eqb-false}
use Rattle.std.proofs.lemmas.Option.{IfSome_then}
use Rattle.text.specs.Ascii.{ascii}
use Rattle.text.specs.Decimal.{digit, decimal}
use Rattle.field.specs.declared.Price.{Price}
use Rattle.field.specs.declared.Field.{Field}
use Rattle.field.specs.declared.Field.TheVariants as F
use Rattle.field.specs.Judging.{both, pick, has_bid, has_offer}
use Rattle.dollars.specs.Dollars.{priced, amount, price_text}
use Rattle.dollars.specs.laws.Cases.{minus as less, down_fits}
use Rattle.dollars.proofs.Dollars.{amount-of, price-plain, price-minus}
use Rattle.names.specs.Names.{same, instrument_in, instrument_name}
use Rattle.names.specs.laws.Finding.{same-is, instrument-found}
use Rattle.line_reader.specs.Lines.{side_bit, side_price, side_text, line_of}
use Rattle.line_reader.specs.laws.Cases.{side-bit}
use Rattle.line_reader.specs.laws.Pieces.{trade-line, quote-line}
use Rattle.line_reader.specs.laws.Trips.{Lined, Shown, Legible, bits, bit-there}
use Rattle.next_line.specs.laws.Standing.{Stands, Found, Near, Digit-at, then, same_bytes, stands-byte, stands-part, found}

-- what holds where something is handed back
pub record Where {X : Type 0} (r : Option X) (A : X → Type 0) : Type 0 where
  pub holds : IfSome r A

pub nowhere : {X : Type 0} {A : X → Type 0} (r : Option X) → r ≡ None → Where r A
nowhere r e = record { holds = rw e tt }

-- ---- words and names

pub word-found : (s word : List ℕ) (at : ℕ) (t : Bool) → at + length word ≤ length s → t ≡ same word (take (at + length word - at) (drop at s)) → t ≡ true → Found s at (length word) word (at + length word)
word-found s word at t h q e =
    found (same_bytes (sym (same-is word _ (sym q ∙ e))) (stands-part s at (at + length word) (omega arith) h)) (omega arith)

module _ (s : List ℕ) (at next : ℕ) (room : at + 7 ≤ length s) (near : Near at 7 next) (r : Option ℕ) (q : r ≡ instrument_in (slice_range s at next)) (i : ℕ) (e : r ≡ Some i) where
  known : (i ≤ 11) × (instrument_name i ≡ slice_range s at next)
  known = instrument-found _ i (sym q ∙ e)

  pub name-found : Found s at 7 (instrument_name i) next
  name-found = found (same_bytes (sym known.1) (stands-part s at next near.from (omega (arith, near.to)))) near.to

  pub name-few : i ≤ 11
  name-few = known.0

  pub name-fits : Fits w8 i
  name-fits = record { fits = omega (arith, known.0) }

-- ---- amounts

module _ (s : List ℕ) (at d point : ℕ) (room : at + 12 ≤ length s) (f : Found s at 9 (decimal d) point) where
  pub point-in : point < length s
  point-in = omega (arith, f.near)

  pub tens-in : point + 1 < length s
  tens-in = omega (arith, f.near)

  pub units_in : point + 2 < length s
  units_in = omega (arith, f.near)

  pub amount-found : (x y : ℕ) → slice_index s point ≡ 46 → Digit-at s (point + 1) x → Digit-at s (point + 2) y → Found s at 12 (amount (d * 100 + (x * 10 + y))) (point + 3)
  amount-found x y p a b =
      let z : point + 1 + 1 ≡ point + 2 = omega arith in
      let v : point + 2 + 1 ≡ point + 3 = omega arith in
      let tens = subst (λ (k : ℕ). Stands s (point + 1) (digit x ∷ []) k) z (stands-byte s (point + 1) (digit x) tens-in a.is) in
      let units = subst (λ (k : ℕ). Stands s (point + 2) (digit y ∷ []) k) v (stands-byte s (point + 2) (digit y) units_in b.is) in
      found (same_bytes (amount-of d x y (omega (arith, a.small)) (omega (arith, b.small))) (then f.stands (then (stands-byte s point 46 point-in p) (then tens units)))) (omega (arith, f.near))

-- ---- prices

unfoldable pub signed_as : Bool → ℕ → ℤ
signed_as minus n = cond minus (neg_ℤ (pos n)) (pos n)

-- where the amount starts
unfoldable pub behind_sign : ℕ → Bool → ℕ
behind_sign at minus = cond minus (at + 1) at

unfoldable pub negative_zero : Bool → ℕ → Bool
negative_zero minus n = cond minus (n == 0) false

pub signed_up : (minus : Bool) (n : ℕ) → n ≤ 999999999 → minus ≡ false → priced (to_z w32 n) ≡ priced (signed_as minus n)
unfolding signed_as
signed_up minus n h e = let l : n < 2 ^ 31 = omega arith in simp e (ap priced (to_z_pos w32 l))

pub signed-fits : (n : ℕ) → n ≤ 999999999 → FitsSigned w32 (pos 0 -ℤ to_z w32 n)
signed-fits n h = down_fits n (omega arith)

pub signed-down : (minus : Bool) (n : ℕ) → n ≤ 999999999 → minus ≡ true → priced (to_z w32 (of_z w32 (pos 0 -ℤ to_z w32 n))) ≡ priced (signed_as minus n)
unfolding signed_as
signed-down minus n h e = let l : n < 2 ^ 31 = omega arith in simp e (ap priced (to_z-of_z (signed-fits n h) ∙ less n l))

pub sign-there : (at : ℕ) (minus : Bool) → minus ≡ true → at + 1 ≡ behind_sign at minus
unfolding behind_sign
sign-there at minus e = simp e

pub sign-none : (at : ℕ) (minus : Bool) → minus ≡ false → at ≡ behind_sign at minus
unfolding behind_sign
sign-none at minus e = simp e

pub zero_minus : (minus : Bool) (n : ℕ) → minus ≡ true → (n == 0) ≡ negative_zero minus n
unfolding negative_zero
zero_minus minus n e = simp e

pub zero-plain : (minus : Bool) (n : ℕ) → minus ≡ false → false ≡ negative_zero minus n
unfolding negative_zero
zero-plain minus n e = simp e

neg-size : (n : ℕ) → unsigned_abs (neg_ℤ (pos n)) ≡ n
neg-size zero = refl
neg-size (suc n) = refl

signed-abs : (minus : Bool) (n : ℕ) → unsigned_abs (signed_as minus n) ≡ n
unfolding signed_as
signed-abs true n = neg-size n
signed-abs false n = refl

pub signed-size : (minus : Bool) (n : ℕ) (p : Price) → p ≡ priced (signed_as minus n) → n ≤ 999999999 → unsigned_abs p.cents ≤ 999999999
signed-size minus n p e h = rw (e, signed-abs minus n) h

pub sign-room : (s : List ℕ) (at from : ℕ) (minus : Bool) → from ≡ behind_sign at minus → at + 13 ≤ length s → from + 12 ≤ length s
unfolding behind_sign
sign-room s at from true e h = omega arith
sign-room s at from false e h = omega arith

signed-found : (s : List ℕ) (at from : ℕ) (minus : Bool) (n next : ℕ) → at + 13 ≤ length s → minus ≡ (slice_index s at == 45) → from ≡ behind_sign at minus → Found s from 12 (amount n) next → negative_zero minus n ≡ false → Found s at 13 (price_text (signed_as minus n)) next
unfolding signed_as behind_sign negative_zero
signed-found s at from true n next h m e f z =
    let g : Found s (at + 1) 12 (amount n) next = subst (λ (v : ℕ). Found s v 12 (amount n) next) e f in
    record {
      stands = same_bytes (price-minus n (omega (arith, eqb-false n 0 z))) (then (stands-byte s at 45 (omega arith) (eqb-true (slice_index s at) 45 (sym m))) g.stands);
      near = omega (arith, g.near);
    }
signed-found s at from false n next h m e f z =
    let g : Found s at 12 (amount n) next = subst (λ (v : ℕ). Found s v 12 (amount n) next) e f in
    record { stands = same_bytes (price-plain n) g.stands; near = omega (arith, g.near) }

pub price-found : (s : List ℕ) (at from : ℕ) (minus : Bool) (n next : ℕ) (t : Bool) (p : Price) → at + 13 ≤ length s → minus ≡ (slice_index s at == 45) → from ≡ behind_sign at minus → Found s from 12 (amount n) next → t ≡ negative_zero minus n → t ≡ false → p ≡ priced (signed_as minus n) → Found s at 13 (price_text p.cents) next
price-found s at from minus n next t p h m e f z g q = rw q (signed-found s at from minus n next h m e f (sym z ∙ g))

-- ---- sides

pub record Side-found (s : List ℕ) (at : ℕ) (side : Option Price) (next : ℕ) : Type 0 where
  pub text : Found s at 13 (side_text (side_bit side == 1) (side_price side)) next
  pub shown : Shown (side_bit side == 1) (side_price side)

pub side-there : (s : List ℕ) (at next : ℕ) (p : Price) → Found s at 13 (price_text p.cents) next → unsigned_abs p.cents ≤ 999999999 → Side-found s at (Some p) next
unfolding side_text pick
side-there s at next p f h = record { text = f; shown = (omega arith, refl) }

pub side-absent : (s : List ℕ) (at next : ℕ) → Found s at 1 (45 ∷ []) next → Side-found s at None next
unfolding side_text pick both
side-absent s at next f = record { text = record { stands = f.stands; near = omega (arith, f.near) }; shown = (omega arith, refl) }

-- ---- the two items that trades and quotes begin with

pub record Stamp-found (s : List ℕ) (at time instrument next : ℕ) : Type 0 where
  pub stamp : Found s at 17 (decimal time ++ 44 ∷ instrument_name instrument) next
  pub small : time ≤ 999999999
  pub few : instrument ≤ 11

pub no-stamp : (s : List ℕ) (at : ℕ) → Where None (λ (r : ℕ × ℕ × ℕ). Stamp-found s at r.0 r.1 r.2)
no-stamp s at = nowhere None refl

pub stamp-found : (s : List ℕ) (at time a b instrument next : ℕ) → Found s at 9 (decimal time) a → Found s a 1 (44 ∷ []) b → Found s b 7 (instrument_name instrument) next → time ≤ 999999999 → instrument ≤ 11 → Stamp-found s at time instrument next
stamp-found s at time a b instrument next f g h small few = record {
  stamp = record { stands = then f.stands (then g.stands h.stands); near = omega (arith, f.near, g.near, h.near) };
  small = small;
  few = few;
}

-- ---- a trade from its price on, a quote from its bid on

pub record Trade-is (s : List ℕ) (at time instrument : ℕ) (f : Field) (next : ℕ) : Type 0 where
  pub price : Price
  pub lots : ℕ
  pub is : f ≡ F.Trade time instrument price lots
  pub tail : Stands s at (price_text price.cents ++ (44 ∷ decimal lots ++ 10 ∷ [])) next
  pub small : unsigned_abs price.cents ≤ 999999999
  pub most : lots ≤ 65535

pub record Quote-is (s : List ℕ) (at time instrument : ℕ) (f : Field) (next : ℕ) : Type 0 where
  pub bid : Option Price
  pub offer : Option Price
  pub is : f ≡ F.Quote time instrument (side_bit bid + 2 * side_bit offer) (side_price bid) (side_price offer)
  pub tail : Stands s at (side_text (side_bit bid == 1) (side_price bid) ++ (44 ∷ side_text (side_bit offer == 1) (side_price offer) ++ 10 ∷ [])) next
  pub shown : Shown (side_bit bid == 1) (side_price bid) × Shown (side_bit offer == 1) (side_price offer)

pub record Trade-found (s : List ℕ) (at time instrument : ℕ) (r : Option (Field × ℕ)) : Type 0 where
  pub trade : Where r (λ x. Trade-is s at time instrument x.0 x.1)

pub record Quote-found (s : List ℕ) (at time instrument : ℕ) (r : Option (Field × ℕ)) : Type 0 where
  pub quote : Where r (λ x. Quote-is s at time instrument x.0 x.1)

pub no-trade : (s : List ℕ) (at time instrument : ℕ) (r : Option (Field × ℕ)) → r ≡ None → Trade-found s at time instrument r
no-trade s at time instrument r e = record { trade = nowhere r e }

pub no-quote : (s : List ℕ) (at time instrument : ℕ) (r : Option (Field × ℕ)) → r ≡ None → Quote-found s at time instrument r
no-quote s at time instrument r e = record { quote = nowhere r e }

pub trade-found : (s : List ℕ) (at time instrument : ℕ) (p : Price) (a b c lots next : ℕ) → Found s at 13 (price_text p.cents) a → Found s a 1 (44 ∷ []) b → Found s b 9 (decimal lots) c → Found s c 1 (10 ∷ []) next → unsigned_abs p.cents ≤ 999999999 → lots ≤ 65535 → Trade-is s at time instrument (F.Trade time instrument p lots) next
trade-found s at time instrument p a b c lots next f g h i small most =
    record { price = p; lots = lots; is = refl; tail = then f.stands (then g.stands (then h.stands i.stands)); small = small; most = most }

pub quote-found : (s : List ℕ) (at time instrument : ℕ) (bid offer : Option Price) (a b c next sides : ℕ) (p q : Price) → Side-found s at bid a → Found s a 1 (44 ∷ []) b → Side-found s b offer c → Found s c 1 (10 ∷ []) next → sides ≡ side_bit bid + 2 * side_bit offer → p ≡ side_price bid → q ≡ side_price offer → Quote-is s at time instrument (F.Quote time instrument sides p q) next
quote-found s at time instrument bid offer a b c next sides p q f g h i u v w = record {
  bid = bid;
  offer = offer;
  is = simp (u, v, w);
  tail = then f.text.stands (then g.stands (then h.text.stands i.stands));
  shown = (f.shown, h.shown);
}

-- ---- the whole line

pub record Record-is (s : List ℕ) (at : ℕ) (f : Field) (next : ℕ) : Type 0 where
  pub line : Stands s at (line_of f ++ 10 ∷ []) next
  pub legible : Legible f
  pub lined : Lined f

pub record Record-found (s : List ℕ) (at : ℕ) (r : Option (Field × ℕ)) : Type 0 where
  pub here : Where r (λ x. Record-is s at x.0 x.1)

pub no_record : (s : List ℕ) (at : ℕ) (r : Option (Field × ℕ)) → r ≡ None → Record-found s at r
no_record s at r e = record { here = nowhere r e }

module _ (s : List ℕ) (at time instrument stamp : ℕ) (f : Stamp-found s at time instrument stamp) (word : ℕ) where
  module _ (w : Found s stamp 7 (ascii ",TRADE,") word) where
    trade-is : (k : Field) (next : ℕ) → Trade-is s word time instrument k next → Record-is s at k next
    trade-is k next t =
        subst (λ (v : Field). Record-is s at v next) (sym t.is)
        (record {
          line = same_bytes (trade-line time instrument t.price t.lots) (then f.stamp.stands (then w.stands t.tail));
          legible = (omega (arith, f.small), f.few, omega (arith, t.small), t.most);
          lined = tt;
        })

    pub trade-whole : (r : Option (Field × ℕ)) → Trade-found s word time instrument r → Record-found s at r
    trade-whole r t = record { here = record { holds = IfSome_then r t.trade.holds (λ x. trade-is x.0 x.1) } }

  module _ (w : Found s stamp 7 (ascii ",QUOTE,") word) where
    quote-is : (k : Field) (next : ℕ) → Quote-is s word time instrument k next → Record-is s at k next
    quote-is k next t =
        let x = side_bit t.bid in
        let y = side_bit t.offer in
        let z = bits x y (side-bit t.bid) (side-bit t.offer) in
        let bid = bit-there (has_bid (x + 2 * y)) x z.0 in
        let offer = bit-there (has_offer (x + 2 * y)) y z.1 in
        let tail = rw (bid, offer) at t.tail in
        let low = rw bid at t.shown.0 in
        let high = rw offer at t.shown.1 in
        subst (λ (v : Field). Record-is s at v next) (sym t.is)
        (record {
          line = same_bytes (quote-line time instrument (x + 2 * y) (side_price t.bid) (side_price t.offer)) (then f.stamp.stands (then w.stands tail));
          legible = (omega (arith, f.small), f.few, omega (arith, side-bit t.bid, side-bit t.offer), low, high);
          lined = tt;
        })

    pub quote-whole : (r : Option (Field × ℕ)) → Quote-found s word time instrument r → Record-found s at r
    quote-whole r t = record { here = record { holds = IfSome_then r t.quote.holds (λ x. quote-is x.0 x.1) } }
