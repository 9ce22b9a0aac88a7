-- Both round trips of a line. A field whose values earn no number is what its line says, and a line that says such a field is that field's line.
--     legible-read   field_in (line_of f) is f, whatever its values that a line can say
--     line_read      so of one whose values earn no number
--     read-line      line_of f is the line
-- Assumes nothing.
use Rattle.std.specs.Prelude.{ℕ, zero, suc, ◌+◌, ◌*◌, ◌^◌, ◌≤◌, ◌<◌, Bool, cond, ◌≡◌, refl, List, [], ◌∷◌, eqb, leb, ℤ, pos, negsuc, nat_abs, Option, Some, None}
use Rattle.std.proofs.Math.Bool.{true, false}
use Rattle.std.proofs.Common.{sym, ap, ◌∙◌, arith, eq-eqb, ne_eqb, leb-true}
use Rattle.std.specs.Int.Signed.{le_z}
use Rattle.text.specs.Ascii.{ascii}
use Rattle.text.specs.Decimal.{decimal}
use Rattle.numerals.specs.Numerals.{is_digit, number}
use Rattle.numerals.specs.laws.Lacks.{lacks}
use Rattle.numerals.specs.laws.Numerals.{clash, writes-read, reads-written, number-lacks}
use Rattle.field.specs.declared.Price.{Price}
use Rattle.field.specs.declared.Form.{Form}
use Rattle.field.specs.declared.Form.TheVariants.{Short, Long}
use Rattle.field.specs.declared.Before.{Before}
use Rattle.field.specs.declared.Field.{Field}
use Rattle.field.specs.declared.Field.TheVariants as F
use Rattle.field.specs.Judging.{fine, pick, cents_within, if_absent, third_of, has_bid, has_offer, judge}
use Rattle.field.specs.laws.Field.{both_true}
use Rattle.field.proofs.Sound.{Sound, sound, metal-range, marks-range, price-size, sides-size}
use Rattle.dollars.specs.Dollars.{pointed, cents, priced, price, price_text}
use Rattle.dollars.specs.laws.Cases.{given_is}
use Rattle.dollars.proofs.Dollars.{Odd, price-written, price-read, price-lacks}
use Rattle.names.specs.Names.{same, metal_in, instrument_in, metal_name, instrument_name}
use Rattle.names.specs.laws.Finding.{same-is, instrument-known, instrument-found, metal-known, metal-found}
use Rattle.items.specs.Items.{items, joined}
use Rattle.items.specs.laws.Items.{Plain, items-join, join-items, joined-lacks}
use Rattle.line_reader.specs.Lines.{paid, side_bit, side_price, sided, side_in, trade_in, quote_in, header_in, long_header_in, previous_in, three, four, five, field_of_items, field_in, side_text, form_items, items_of, line_of}
use Rattle.line_reader.specs.laws.Cases.{trade-all, quote-all, metal-all, long-all, previous-all, side-bit}

-- ---- numbers written, and the bits of sides

told : (most n : ℕ) → n ≤ most → n < 10 ^ 19 → number most (decimal n) ≡ Some n
told most n l h = reads-written most n (omega arith) l

plain : (c n : ℕ) → is_digit c ≡ false → n < 10 ^ 19 → lacks c (decimal n) ≡ true
plain c n d h = number-lacks c n n (decimal n) d (told n n (omega arith) h)

pub bit_of : Bool → ℕ
bit_of true = 1
bit_of false = 0

no-dash : (z : ℤ) → nat_abs z < 1000000000 → same (ascii "-") (price_text z) ≡ false
unfolding price cents pointed
no-dash z h = by-test (same (ascii "-") (price_text z)) refl
  where
    by-test : (t : Bool) → same (ascii "-") (price_text z) ≡ t → t ≡ false
    by-test true e =
        let p : ascii "-" ≡ price_text z = same-is (ascii "-") (price_text z) e in
        let w : price (ascii "-") ≡ Some (priced z) = ap price p ∙ price-written z h in
        clash cc
    by-test false e = refl

zero-cents : (p : Price) → cents_within (pos 0) (pos 0) p ≡ true → priced (pos 0) ≡ p
zero-cents p e = at p.cents (both_true (le_z (pos 0) p.cents) (le_z p.cents (pos 0)) e)
  where
    at : (z : ℤ) → (le_z (pos 0) z ≡ true) × (le_z z (pos 0) ≡ true) → priced (pos 0) ≡ priced z
    at (pos n) h = ap (λ (v : ℕ). priced (pos v)) (omega (arith, leb-true n 0 h.1))
    at (negsuc n) h = clash (cc h.0)

sides-back : (sides : ℕ) → sides ≤ 3 → bit_of (has_bid sides) + 2 * bit_of (has_offer sides) ≡ sides
unfolding bit_of
sides-back zero h = refl
sides-back (suc zero) h = refl
sides-back (suc (suc zero)) h = refl
sides-back (suc (suc (suc zero))) h = refl
sides-back (suc (suc (suc (suc n)))) h = absurd (omega arith)

-- ---- what a line's items say

-- every field but the end has a line
abbrev pub Lined : Field → Type 0
Lined (F.Header metal marks form) = Unit {0}
Lined (F.PreviousClose instrument p) = Unit {0}
Lined (F.Trade time instrument p lots) = Unit {0}
Lined (F.Quote time instrument sides bid offer) = Unit {0}
Lined (F.End count) = ⊥

-- the values that a line can say: names that there are, numbers that their widths hold, and below ten million dollars; an absent side holds zero
abbrev pub Shown : Bool → Price → Type 0
Shown present p = (nat_abs p.cents < 1000000000) × (if_absent present (cents_within (pos 0) (pos 0) p) ≡ true)

abbrev pub Legible : Field → Type 0
Legible (F.Header metal marks form) = (1 ≤ metal) × (metal ≤ 5) × (marks ≤ 65535) × (third_of form ≤ 255)
Legible (F.PreviousClose instrument p) = (instrument ≤ 11) × (nat_abs p.cents < 1000000000)
Legible (F.Trade time instrument p lots) = (time ≤ 4294967295) × (instrument ≤ 11) × (nat_abs p.cents < 1000000000) × (lots ≤ 65535)
Legible (F.Quote time instrument sides bid offer) = (time ≤ 4294967295) × (instrument ≤ 11) × (sides ≤ 3) × Shown (has_bid sides) bid × Shown (has_offer sides) offer
Legible (F.End count) = Unit {0}

-- those of a field that earns no number
legible : (before : Before) (f : Field) → Sound before f → Legible f
legible before (F.Header metal marks form) h =
    let m = metal-range metal marks (third_of form) h in
    let k = marks-range metal marks (third_of form) h in
    (m.0, m.1, omega (arith, k.0), omega (arith, k.1))
legible before (F.PreviousClose instrument p) h = (h.0.in_table, omega (arith, price-size instrument p h.1))
legible before (F.Trade time instrument p lots) h =
    (omega (arith, h.stamp.in-day), h.stamp.on.in_table, omega (arith, price-size instrument p h.price-in), omega (arith, h.most))
legible before (F.Quote time instrument sides bid offer) h =
    let z = sides-size before time instrument sides bid offer h in
    let s = both_true (leb sides 3) _ h.sides-in in
    let a = both_true _ _ s.1 in
    (omega (arith, h.stamp.in-day), h.stamp.on.in_table, leb-true sides 3 s.0, (omega (arith, z.0), a.0), (omega (arith, z.1), a.1))
legible before (F.End count) h = tt

-- a byte that stands in no item: a comma, a line feed
pub record Free (c : ℕ) : Type 0 where
  pub odd : Odd c
  pub words : (lacks c (ascii "METAL") ≡ true) × (lacks c (ascii "PREV") ≡ true) × (lacks c (ascii "TRADE") ≡ true) × (lacks c (ascii "QUOTE") ≡ true) × (lacks c (ascii "-") ≡ true)
  pub instruments : (i : ℕ) → i ≤ 11 → lacks c (instrument_name i) ≡ true
  pub metals : (m : ℕ) → 1 ≤ m → m ≤ 5 → lacks c (metal_name m) ≡ true

free-44 : Free 44
unfolding is_digit
free-44 = record { odd = record { digits = refl; point = refl; minus = refl }; words = (refl, refl, refl, refl, refl); instruments = λ i h. (instrument-known i h).plain; metals = λ m l h. (metal-known m l h).plain }

free-10 : Free 10
unfolding is_digit
free-10 = record { odd = record { digits = refl; point = refl; minus = refl }; words = (refl, refl, refl, refl, refl); instruments = λ i h. (instrument-known i h).one_line; metals = λ m l h. (metal-known m l h).one_line }

module _ (c : ℕ) (w : Free c) where
  free-side : (present : Bool) (p : Price) → nat_abs p.cents < 1000000000 → lacks c (side_text present p) ≡ true
  unfolding side_text
  free-side true p h = price-lacks c p.cents w.odd h
  free-side false p h = w.words.4

  free-form : (form : Form) → third_of form ≤ 255 → Plain c (form_items form)
  free-form Short h = tt
  free-form (Long third) h = (plain c third w.odd.digits (omega arith), tt)

  free-items : (f : Field) → Legible f → Plain c (items_of f)
  unfolding items_of
  free-items (F.Header metal marks form) h = (w.words.0, (w.metals metal h.0 h.1, (plain c marks w.odd.digits (omega (arith, h.2)), free-form form h.3)))
  free-items (F.PreviousClose instrument p) h = (w.words.1, (w.instruments instrument h.0, (price-lacks c p.cents w.odd h.1, tt)))
  free-items (F.Trade time instrument p lots) h =
      (plain c time w.odd.digits (omega (arith, h.0)), (w.instruments instrument h.1, (w.words.2, (price-lacks c p.cents w.odd h.2, (plain c lots w.odd.digits (omega (arith, h.3)), tt)))))
  free-items (F.Quote time instrument sides bid offer) h =
      (plain c time w.odd.digits (omega (arith, h.0)), (w.instruments instrument h.1, (w.words.3, (free-side (has_bid sides) bid h.3.0, (free-side (has_offer sides) offer h.4.0, tt)))))
  free-items (F.End count) h = tt

-- no line holds a line feed
pub legible-lacks : (f : Field) → Legible f → lacks 10 (line_of f) ≡ true
unfolding line_of
legible-lacks f h = joined-lacks 44 10 (items_of f) refl (free-items 10 free-10 f h)

pub line-lacks : (before : Before) (f : Field) → judge before f ≡ fine → lacks 10 (line_of f) ≡ true
line-lacks before f e = legible-lacks f (legible before f (sound before f e))

-- the side of a bit and a price
side_of : Bool → Price → Option Price
side_of true p = Some p
side_of false p = None

side-written : (present : Bool) (p : Price) → Shown present p → side_in (side_text present p) ≡ Some (side_of present p)
unfolding side_in side_text side_of same
side-written true p h = simp (no-dash p.cents h.0, price-written p.cents h.0)
side-written false p h = refl

side_of-bit : (present : Bool) (p : Price) → bit_of present ≡ side_bit (side_of present p)
unfolding bit_of side_of
side_of-bit true p = refl
side_of-bit false p = refl

side_of-price : (present : Bool) (p : Price) → Shown present p → p ≡ side_price (side_of present p)
unfolding side_of pick
side_of-price true p h = refl
side_of-price false p h = sym (zero-cents p h.1)

-- metal and marks, with whichever form
header-written : (metal marks : ℕ) (form : Form) → Legible (F.Header metal marks form) → header_in (metal_name metal) (decimal marks) form ≡ Some (F.Header metal marks form)
header-written metal marks form h =
    sym (metal-all (metal_name metal) (decimal marks) form _ metal refl (metal-known metal h.0 h.1).found _ marks refl (told 65535 marks h.2 (omega (arith, h.2))))

written : (f : Field) → Legible f → Lined f → field_of_items (items_of f) ≡ Some f
unfolding items_of field_of_items three four five same
written (F.Header metal marks Short) h l = header-written metal marks Short h
written (F.Header metal marks (Long third)) h l =
    sym (long-all (metal_name metal) (decimal marks) (decimal third) _ third refl (told 255 third h.3 (omega (arith, h.3))) _ refl) ∙ header-written metal marks (Long third) h
written (F.PreviousClose instrument p) h l =
    sym (previous-all (instrument_name instrument) (price_text p.cents) _ instrument refl (instrument-known instrument h.0).found _ p refl (price-written p.cents h.1))
written (F.Trade time instrument p lots) h l =
    sym (trade-all (decimal time) (instrument_name instrument) (price_text p.cents) (decimal lots)
    _ time refl (told 4294967295 time h.0 (omega (arith, h.0))) _ instrument refl (instrument-known instrument h.1).found
    _ p refl (price-written p.cents h.2) _ lots refl (told 65535 lots h.3 (omega (arith, h.3))))
written (F.Quote time instrument sides bid offer) h l =
    sym (quote-all (decimal time) (instrument_name instrument) (side_text (has_bid sides) bid) (side_text (has_offer sides) offer)
    _ time refl (told 4294967295 time h.0 (omega (arith, h.0))) _ instrument refl (instrument-known instrument h.1).found
    _ (side_of (has_bid sides) bid) refl (side-written (has_bid sides) bid h.3)
    _ (side_of (has_offer sides) offer) refl (side-written (has_offer sides) offer h.4)
    sides (sym (sides-back sides h.2) ∙ simp (side_of-bit (has_bid sides) bid, side_of-bit (has_offer sides) offer))
    bid offer (side_of-price (has_bid sides) bid h.3) (side_of-price (has_offer sides) offer h.4))
written (F.End count) h l = absurd l

again : (f : Field) → Plain 44 (items_of f) → Lined f → items (joined 44 (items_of f)) ≡ items_of f
unfolding items_of
again (F.Header metal marks form) p l = items-join 44 _ _ p
again (F.PreviousClose instrument q) p l = items-join 44 _ _ p
again (F.Trade time instrument q lots) p l = items-join 44 _ _ p
again (F.Quote time instrument sides bid offer) p l = items-join 44 _ _ p
again (F.End count) p l = absurd l

pub legible-read : (f : Field) → Legible f → Lined f → field_in (line_of f) ≡ Some f
unfolding field_in line_of
legible-read f h l = ap field_of_items (again f (free-items 44 free-44 f h) l) ∙ written f h l

pub line_read : (before : Before) (f : Field) → judge before f ≡ fine → Lined f → field_in (line_of f) ≡ Some f
line_read before f e l = legible-read f (legible before f (sound before f e)) l

-- ---- what the items were

never : (f : Field) → None ≡ Some f → ⊥
never f e = clash cc

record Paid (r : Option Price) (more : Price → Option Field) (y : Option Field) : Type 0 where
  p : Price
  is : r ≡ Some p
  rest : more p ≡ y

paid-is : (r : Option Price) (more : Price → Option Field) (f : Field) → paid None r more ≡ Some f → Paid r more (Some f)
paid-is (Some p) more f e = record { p = p; is = refl; rest = e }
paid-is None more f e = absurd (never f e)

record Sided (r : Option (Option Price)) (more : ℕ → Price → Option Field) (y : Option Field) : Type 0 where
  side : Option Price
  is : r ≡ Some side
  rest : more (side_bit side) (side_price side) ≡ y

sided-is : (r : Option (Option Price)) (more : ℕ → Price → Option Field) (f : Field) → sided None r more ≡ Some f → Sided r more (Some f)
sided-is (Some side) more f e = record { side = side; is = refl; rest = e }
sided-is None more f e = absurd (never f e)

-- the sound values of the field that a line says
of-same : (before : Before) (f g : Field) → Some g ≡ Some f → judge before f ≡ fine → (g ≡ f) × Sound before g
of-same before f g e j = let q : g ≡ f = cc in (q, sound before g (ap (judge before) q ∙ j))

metal-back : (before : Before) (a b : List ℕ) (form : Form) (f : Field) → header_in a b form ≡ Some f → judge before f ≡ fine → (items_of f ≡ ascii "METAL" ∷ a ∷ b ∷ form_items form) × (third_of form ≤ 2)
unfolding header_in items_of
metal-back before a b form f e j =
    let g = given_is (metal_in a) None _ (Some f) (never f) e in
    let k = given_is (number 65535 b) None _ (Some f) (never f) g.rest in
    let s = of-same before f _ k.rest j in
    let m = marks-range g.n k.n (third_of form) s.1 in
    let u = (metal-found a g.n g.is).2 in
    let v = writes-read 65535 k.n b (omega arith) k.is (omega (arith, m.0)) in
    (ap items_of (sym s.0) ∙ simp (u, v), m.1)

long-back : (before : Before) (a b c : List ℕ) (f : Field) → long_header_in a b c ≡ Some f → judge before f ≡ fine → items_of f ≡ ascii "METAL" ∷ a ∷ b ∷ c ∷ []
unfolding long_header_in
long-back before a b c f e j =
    let t = given_is (number 255 c) None _ (Some f) (never f) e in
    let m = metal-back before a b (Long t.n) f t.rest j in
    m.0 ∙ ap (λ (v : List ℕ). ascii "METAL" ∷ a ∷ b ∷ v ∷ []) (writes-read 255 t.n c (omega arith) t.is (omega (arith, m.1)))

previous-back : (before : Before) (a b : List ℕ) (f : Field) → previous_in a b ≡ Some f → judge before f ≡ fine → items_of f ≡ ascii "PREV" ∷ a ∷ b ∷ []
unfolding previous_in items_of
previous-back before a b f e j =
    let g = given_is (instrument_in a) None _ (Some f) (never f) e in
    let k = paid-is (price b) _ f g.rest in
    let s = of-same before f _ k.rest j in
    let z = price-size g.n k.p s.1.1 in
    let u = (instrument-found a g.n g.is).1 in
    let v = price-read b k.p k.is (omega arith) in
    ap items_of (sym s.0) ∙ simp (u, v)

trade-back : (before : Before) (a b c d : List ℕ) (f : Field) → trade_in a b c d ≡ Some f → judge before f ≡ fine → items_of f ≡ a ∷ b ∷ ascii "TRADE" ∷ c ∷ d ∷ []
unfolding trade_in items_of
trade-back before a b c d f e j =
    let t = given_is (number 4294967295 a) None _ (Some f) (never f) e in
    let g = given_is (instrument_in b) None _ (Some f) (never f) t.rest in
    let k = paid-is (price c) _ f g.rest in
    let l = given_is (number 65535 d) None _ (Some f) (never f) k.rest in
    let s = of-same before f _ l.rest j in
    let z = price-size g.n k.p s.1.price-in in
    let u = writes-read 4294967295 t.n a (omega arith) t.is (omega (arith, s.1.stamp.in-day)) in
    let v = (instrument-found b g.n g.is).1 in
    let w = price-read c k.p k.is (omega arith) in
    let x = writes-read 65535 l.n d (omega arith) l.is (omega (arith, s.1.most)) in
    ap items_of (sym s.0) ∙ simp (u, v, w, x)

-- a side is a dash, or a price
abbrev SideBack : List ℕ → Option Price → Type 0
SideBack s None = ascii "-" ≡ s
SideBack s (Some p) = price s ≡ Some p

side-is : (s : List ℕ) (side : Option Price) → side_in s ≡ Some side → SideBack s side
unfolding side_in
side-is s side e = by-test (same (ascii "-") s) refl (price s) refl side e
  where
    by-test : (t : Bool) → same (ascii "-") s ≡ t → (m : Option Price) → price s ≡ m → (side : Option Price) → cond t (Some None) (paid None m (λ q. Some (Some q))) ≡ Some side → SideBack s side
    by-test true h m q None g = same-is (ascii "-") s h
    by-test true h m q (Some p) g = clash cc
    by-test false h (Some r) q None g = clash cc
    by-test false h (Some r) q (Some p) g = cc
    by-test false h None q side g = clash cc

side-back : (s : List ℕ) (side : Option Price) (present : Bool) → side_in s ≡ Some side → nat_abs (side_price side).cents ≤ 99999999 → bit_of present ≡ side_bit side → side_text present (side_price side) ≡ s
unfolding side_text bit_of
side-back s None true e h q = absurd (omega arith)
side-back s None false e h q = side-is s None e
side-back s (Some p) true e h q = price-read s p (side-is s (Some p) e) (omega arith)
side-back s (Some p) false e h q = absurd (omega arith)

-- both bits, read off their sum
pub bits : (x y : ℕ) → x ≤ 1 → y ≤ 1 → (bit_of (has_bid (x + 2 * y)) ≡ x) × (bit_of (has_offer (x + 2 * y)) ≡ y)
unfolding bit_of
bits zero zero h g = (refl, refl)
bits zero (suc zero) h g = (refl, refl)
bits (suc zero) zero h g = (refl, refl)
bits (suc zero) (suc zero) h g = (refl, refl)
bits (suc (suc x)) y h g = absurd (omega arith)
bits zero (suc (suc y)) h g = absurd (omega arith)
bits (suc zero) (suc (suc y)) h g = absurd (omega arith)

-- a side is there where its bit is 1
pub bit-there : (b : Bool) (x : ℕ) → bit_of b ≡ x → eqb x 1 ≡ b
unfolding bit_of
bit-there true x e = eq-eqb x 1 (sym e)
bit-there false x e = ne_eqb x 1 (λ g. omega arith)

quote-back : (before : Before) (a b c d : List ℕ) (f : Field) → quote_in a b c d ≡ Some f → judge before f ≡ fine → items_of f ≡ a ∷ b ∷ ascii "QUOTE" ∷ c ∷ d ∷ []
unfolding quote_in items_of
quote-back before a b c d f e j =
    let t = given_is (number 4294967295 a) None _ (Some f) (never f) e in
    let g = given_is (instrument_in b) None _ (Some f) (never f) t.rest in
    let k = sided-is (side_in c) _ f g.rest in
    let l = sided-is (side_in d) _ f k.rest in
    let s = of-same before f _ l.rest j in
    let z = sides-size before t.n g.n (side_bit k.side + 2 * side_bit l.side) (side_price k.side) (side_price l.side) s.1 in
    let y = bits (side_bit k.side) (side_bit l.side) (side-bit k.side) (side-bit l.side) in
    let u = writes-read 4294967295 t.n a (omega arith) t.is (omega (arith, s.1.stamp.in-day)) in
    let v = (instrument-found b g.n g.is).1 in
    let w = side-back c k.side _ k.is z.0 y.0 in
    let x = side-back d l.side _ l.is z.1 y.1 in
    ap items_of (sym s.0) ∙ simp (u, v, w, x)

three_back : (before : Before) (a b c : List ℕ) (f : Field) → three a b c ≡ Some f → judge before f ≡ fine → items_of f ≡ a ∷ b ∷ c ∷ []
unfolding three
three_back before a b c f e j = by-test (same (ascii "METAL") a) refl (same (ascii "PREV") a) refl e
  where
    by-test : (t : Bool) → same (ascii "METAL") a ≡ t → (u : Bool) → same (ascii "PREV") a ≡ u → cond t (header_in b c Short) (cond u (previous_in b c) None) ≡ Some f → items_of f ≡ a ∷ b ∷ c ∷ []
    by-test true h u g q = (metal-back before b c Short f q j).0 ∙ ap (λ (v : List ℕ). v ∷ b ∷ c ∷ []) (same-is (ascii "METAL") a h)
    by-test false h true g q = previous-back before b c f q j ∙ ap (λ (v : List ℕ). v ∷ b ∷ c ∷ []) (same-is (ascii "PREV") a g)
    by-test false h false g q = absurd (never f q)

four-back : (before : Before) (a b c d : List ℕ) (f : Field) → four a b c d ≡ Some f → judge before f ≡ fine → items_of f ≡ a ∷ b ∷ c ∷ d ∷ []
unfolding four
four-back before a b c d f e j = by-test (same (ascii "METAL") a) refl e
  where
    by-test : (t : Bool) → same (ascii "METAL") a ≡ t → cond t (long_header_in b c d) None ≡ Some f → items_of f ≡ a ∷ b ∷ c ∷ d ∷ []
    by-test true h q = long-back before b c d f q j ∙ ap (λ (v : List ℕ). v ∷ b ∷ c ∷ d ∷ []) (same-is (ascii "METAL") a h)
    by-test false h q = absurd (never f q)

five-back : (before : Before) (a b c d e : List ℕ) (f : Field) → five a b c d e ≡ Some f → judge before f ≡ fine → items_of f ≡ a ∷ b ∷ c ∷ d ∷ e ∷ []
unfolding five
five-back before a b c d e f i j = by-test (same (ascii "TRADE") c) refl (same (ascii "QUOTE") c) refl i
  where
    by-test : (t : Bool) → same (ascii "TRADE") c ≡ t → (u : Bool) → same (ascii "QUOTE") c ≡ u → cond t (trade_in a b d e) (cond u (quote_in a b d e) None) ≡ Some f → items_of f ≡ a ∷ b ∷ c ∷ d ∷ e ∷ []
    by-test true h u g q = trade-back before a b d e f q j ∙ ap (λ (v : List ℕ). a ∷ b ∷ v ∷ d ∷ e ∷ []) (same-is (ascii "TRADE") c h)
    by-test false h true g q = quote-back before a b d e f q j ∙ ap (λ (v : List ℕ). a ∷ b ∷ v ∷ d ∷ e ∷ []) (same-is (ascii "QUOTE") c g)
    by-test false h false g q = absurd (never f q)

items_back : (before : Before) (is : List (List ℕ)) (f : Field) → field_of_items is ≡ Some f → judge before f ≡ fine → items_of f ≡ is
unfolding field_of_items
items_back before [] f e j = absurd (never f e)
items_back before (a ∷ []) f e j = absurd (never f e)
items_back before (a ∷ b ∷ []) f e j = absurd (never f e)
items_back before (a ∷ b ∷ c ∷ []) f e j = three_back before a b c f e j
items_back before (a ∷ b ∷ c ∷ d ∷ []) f e j = four-back before a b c d f e j
items_back before (a ∷ b ∷ c ∷ d ∷ i ∷ []) f e j = five-back before a b c d i f e j
items_back before (a ∷ b ∷ c ∷ d ∷ i ∷ k ∷ is) f e j = absurd (never f e)

pub read-line : (before : Before) (s : List ℕ) (f : Field) → field_in s ≡ Some f → judge before f ≡ fine → line_of f ≡ s
unfolding field_in line_of
read-line before s f e j = ap (joined 44) (items_back before (items s) f e j) ∙ join-items 44 s
