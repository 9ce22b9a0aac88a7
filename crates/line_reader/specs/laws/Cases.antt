-- The places of the code that reads a line. Assumes nothing.
use Rattle.std.specs.Prelude.{ℕ, ◌+◌, ◌-◌, ◌*◌, ◌≤◌, ◌<◌, Bool, true, false, ◌≡◌, refl, List, ◌∷◌, [], length, take, drop, Option, Some, None}
use Rattle.std.proofs.Math.Path.{sym, ap}
use Rattle.std.proofs.Common.{◌∙◌, Fits}
use native.Mathlib.Omega.{arith}
use Rattle.std.specs.Int.{w8, w16}
use Rattle.text.specs.Ascii.{ascii}
use Rattle.numerals.specs.Numerals.{number}
use Rattle.numerals.specs.laws.Numerals.{number-most}
use Rattle.field.specs.declared.Price.{Price}
use Rattle.field.specs.declared.Form.{Form}
use Rattle.field.specs.declared.Form.TheVariants.{Short, Long}
use Rattle.field.specs.declared.Field.{Field}
use Rattle.field.specs.declared.Field.TheVariants as F
use Rattle.dollars.specs.Dollars.{price}
use Rattle.names.specs.Names.{same, metal_in, instrument_in}
use Rattle.names.specs.laws.Finding.{instrument-found, metal-found}
use Rattle.items.specs.Items.{items, end_of}
use Rattle.items.specs.laws.Items.{last-item, next-item}
use Rattle.line_reader.specs.Lines.{side_bit, side_price, side_in, trade_in, quote_in, header_in, long_header_in, previous_in, three, four, five, field_of_items, field_in}

-- ---- a side

module _ (s : List ℕ) (t : Bool) (q : t ≡ same (ascii "-") s) where
  pub side-none : t ≡ true → Some None ≡ side_in s
  unfolding side_in
  side-none h = simp (sym q, h)

  module _ (h : t ≡ false) (r : Option Price) (m : r ≡ price s) where
    pub side-some : (p : Price) → r ≡ Some p → Some (Some p) ≡ side_in s
    unfolding side_in
    side-some p e = simp (sym q, h, sym m, e)

    pub side-bad : r ≡ None → None ≡ side_in s
    unfolding side_in
    side-bad e = simp (sym q, h, sym m, e)

-- ---- items that say a value, one after the other

pub trade-0 : (a b c d : List ℕ) (r0 : Option ℕ) → r0 ≡ number 4294967295 a → r0 ≡ None → None ≡ trade_in a b c d
unfolding trade_in
trade-0 a b c d r0 q0 e = simp (sym q0, e)

pub trade-1 : (a b c d : List ℕ) (r0 : Option ℕ) (t : ℕ) → r0 ≡ number 4294967295 a → r0 ≡ Some t → (r1 : Option ℕ) → r1 ≡ instrument_in b → r1 ≡ None → None ≡ trade_in a b c d
unfolding trade_in
trade-1 a b c d r0 t q0 e0 r1 q1 e = simp (sym q0, e0, sym q1, e)

pub trade-2 : (a b c d : List ℕ) (r0 : Option ℕ) (t : ℕ) → r0 ≡ number 4294967295 a → r0 ≡ Some t → (r1 : Option ℕ) (i : ℕ) → r1 ≡ instrument_in b → r1 ≡ Some i → (r2 : Option Price) → r2 ≡ price c → r2 ≡ None → None ≡ trade_in a b c d
unfolding trade_in
trade-2 a b c d r0 t q0 e0 r1 i q1 e1 r2 q2 e = simp (sym q0, e0, sym q1, e1, sym q2, e)

pub trade-3 : (a b c d : List ℕ) (r0 : Option ℕ) (t : ℕ) → r0 ≡ number 4294967295 a → r0 ≡ Some t → (r1 : Option ℕ) (i : ℕ) → r1 ≡ instrument_in b → r1 ≡ Some i → (r2 : Option Price) (p : Price) → r2 ≡ price c → r2 ≡ Some p → (r3 : Option ℕ) → r3 ≡ number 65535 d → r3 ≡ None → None ≡ trade_in a b c d
unfolding trade_in
trade-3 a b c d r0 t q0 e0 r1 i q1 e1 r2 p q2 e2 r3 q3 e = simp (sym q0, e0, sym q1, e1, sym q2, e2, sym q3, e)

pub trade-all : (a b c d : List ℕ) (r0 : Option ℕ) (t : ℕ) → r0 ≡ number 4294967295 a → r0 ≡ Some t → (r1 : Option ℕ) (i : ℕ) → r1 ≡ instrument_in b → r1 ≡ Some i → (r2 : Option Price) (p : Price) → r2 ≡ price c → r2 ≡ Some p → (r3 : Option ℕ) (l : ℕ) → r3 ≡ number 65535 d → r3 ≡ Some l → Some (F.Trade t i p l) ≡ trade_in a b c d
unfolding trade_in
trade-all a b c d r0 t q0 e0 r1 i q1 e1 r2 p q2 e2 r3 l q3 e3 = simp (sym q0, e0, sym q1, e1, sym q2, e2, sym q3, e3)

pub quote-0 : (a b c d : List ℕ) (r0 : Option ℕ) → r0 ≡ number 4294967295 a → r0 ≡ None → None ≡ quote_in a b c d
unfolding quote_in
quote-0 a b c d r0 q0 e = simp (sym q0, e)

pub quote-1 : (a b c d : List ℕ) (r0 : Option ℕ) (t : ℕ) → r0 ≡ number 4294967295 a → r0 ≡ Some t → (r1 : Option ℕ) → r1 ≡ instrument_in b → r1 ≡ None → None ≡ quote_in a b c d
unfolding quote_in
quote-1 a b c d r0 t q0 e0 r1 q1 e = simp (sym q0, e0, sym q1, e)

pub quote-2 : (a b c d : List ℕ) (r0 : Option ℕ) (t : ℕ) → r0 ≡ number 4294967295 a → r0 ≡ Some t → (r1 : Option ℕ) (i : ℕ) → r1 ≡ instrument_in b → r1 ≡ Some i → (r2 : Option (Option Price)) → r2 ≡ side_in c → r2 ≡ None → None ≡ quote_in a b c d
unfolding quote_in
quote-2 a b c d r0 t q0 e0 r1 i q1 e1 r2 q2 e = simp (sym q0, e0, sym q1, e1, sym q2, e)

pub quote-3 : (a b c d : List ℕ) (r0 : Option ℕ) (t : ℕ) → r0 ≡ number 4294967295 a → r0 ≡ Some t → (r1 : Option ℕ) (i : ℕ) → r1 ≡ instrument_in b → r1 ≡ Some i → (r2 : Option (Option Price)) (x : Option Price) → r2 ≡ side_in c → r2 ≡ Some x → (r3 : Option (Option Price)) → r3 ≡ side_in d → r3 ≡ None → None ≡ quote_in a b c d
unfolding quote_in
quote-3 a b c d r0 t q0 e0 r1 i q1 e1 r2 x q2 e2 r3 q3 e = simp (sym q0, e0, sym q1, e1, sym q2, e2, sym q3, e)

pub quote-all : (a b c d : List ℕ) (r0 : Option ℕ) (t : ℕ) → r0 ≡ number 4294967295 a → r0 ≡ Some t → (r1 : Option ℕ) (i : ℕ) → r1 ≡ instrument_in b → r1 ≡ Some i → (r2 : Option (Option Price)) (x : Option Price) → r2 ≡ side_in c → r2 ≡ Some x → (r3 : Option (Option Price)) (y : Option Price) → r3 ≡ side_in d → r3 ≡ Some y → (sides : ℕ) → sides ≡ side_bit x + 2 * side_bit y → (p o : Price) → p ≡ side_price x → o ≡ side_price y → Some (F.Quote t i sides p o) ≡ quote_in a b c d
unfolding quote_in
quote-all a b c d r0 t q0 e0 r1 i q1 e1 r2 x q2 e2 r3 y q3 e3 sides g p o h k = simp (sym q0, e0, sym q1, e1, sym q2, e2, sym q3, e3, g, h, k)

pub metal-0 : (a b : List ℕ) (form : Form) (r0 : Option ℕ) → r0 ≡ metal_in a → r0 ≡ None → None ≡ header_in a b form
unfolding header_in
metal-0 a b form r0 q0 e = simp (sym q0, e)

pub metal-1 : (a b : List ℕ) (form : Form) (r0 : Option ℕ) (m : ℕ) → r0 ≡ metal_in a → r0 ≡ Some m → (r1 : Option ℕ) → r1 ≡ number 65535 b → r1 ≡ None → None ≡ header_in a b form
unfolding header_in
metal-1 a b form r0 m q0 e0 r1 q1 e = simp (sym q0, e0, sym q1, e)

pub metal-all : (a b : List ℕ) (form : Form) (r0 : Option ℕ) (m : ℕ) → r0 ≡ metal_in a → r0 ≡ Some m → (r1 : Option ℕ) (k : ℕ) → r1 ≡ number 65535 b → r1 ≡ Some k → Some (F.Header m k form) ≡ header_in a b form
unfolding header_in
metal-all a b form r0 m q0 e0 r1 k q1 e1 = simp (sym q0, e0, sym q1, e1)

pub long-0 : (a b c : List ℕ) (r0 : Option ℕ) → r0 ≡ number 255 c → r0 ≡ None → None ≡ long_header_in a b c
unfolding long_header_in
long-0 a b c r0 q0 e = simp (sym q0, e)

pub long-all : (a b c : List ℕ) (r0 : Option ℕ) (t : ℕ) → r0 ≡ number 255 c → r0 ≡ Some t → (r : Option Field) → r ≡ header_in a b (Long t) → r ≡ long_header_in a b c
unfolding long_header_in
long-all a b c r0 t q0 e0 r e = simp (sym q0, e0, e)

pub previous-0 : (a b : List ℕ) (r0 : Option ℕ) → r0 ≡ instrument_in a → r0 ≡ None → None ≡ previous_in a b
unfolding previous_in
previous-0 a b r0 q0 e = simp (sym q0, e)

pub previous-1 : (a b : List ℕ) (r0 : Option ℕ) (i : ℕ) → r0 ≡ instrument_in a → r0 ≡ Some i → (r1 : Option Price) → r1 ≡ price b → r1 ≡ None → None ≡ previous_in a b
unfolding previous_in
previous-1 a b r0 i q0 e0 r1 q1 e = simp (sym q0, e0, sym q1, e)

pub previous-all : (a b : List ℕ) (r0 : Option ℕ) (i : ℕ) → r0 ≡ instrument_in a → r0 ≡ Some i → (r1 : Option Price) (p : Price) → r1 ≡ price b → r1 ≡ Some p → Some (F.PreviousClose i p) ≡ previous_in a b
unfolding previous_in
previous-all a b r0 i q0 e0 r1 p q1 e1 = simp (sym q0, e0, sym q1, e1)

-- ---- their widths

pub fits-wide : (s : List ℕ) (r : Option ℕ) (n : ℕ) → r ≡ number 65535 s → r ≡ Some n → Fits w16 n
fits-wide s r n q e = record { fits = omega (arith, number-most _ _ _ (sym q ∙ e)) }

pub fits-third : (s : List ℕ) (r : Option ℕ) (n : ℕ) → r ≡ number 255 s → r ≡ Some n → Fits w8 n
fits-third s r n q e = record { fits = omega (arith, number-most _ _ _ (sym q ∙ e)) }

pub fits-instrument : (s : List ℕ) (r : Option ℕ) (n : ℕ) → r ≡ instrument_in s → r ≡ Some n → Fits w8 n
fits-instrument s r n q e = record { fits = omega (arith, (instrument-found _ _ (sym q ∙ e)).0) }

pub fits-metal : (s : List ℕ) (r : Option ℕ) (n : ℕ) → r ≡ metal_in s → r ≡ Some n → Fits w8 n
fits-metal s r n q e = record { fits = omega (arith, (metal-found _ _ (sym q ∙ e)).1) }

pub side-bit : (side : Option Price) → side_bit side ≤ 1
side-bit None = omega arith
side-bit (Some p) = omega arith

pub fits-twice : (side : Option Price) → Fits w8 (2 * side_bit side)
fits-twice side = record { fits = omega (arith, side-bit side) }

pub fits-sides : (bid offer : Option Price) → Fits w8 (side_bit bid + 2 * side_bit offer)
fits-sides bid offer = record { fits = omega (arith, side-bit bid, side-bit offer) }

-- ---- three items, four, and five

module _ (a b c : List ℕ) (t : Bool) (q : t ≡ same (ascii "METAL") a) where
  pub three-metal : t ≡ true → (r : Option Field) → r ≡ header_in b c Short → r ≡ three a b c
  unfolding three
  three-metal h r e = simp (sym q, h, e)

  module _ (h : t ≡ false) (u : Bool) (p : u ≡ same (ascii "PREV") a) where
    pub three-previous : u ≡ true → (r : Option Field) → r ≡ previous_in b c → r ≡ three a b c
    unfolding three
    three-previous g r e = simp (sym q, h, sym p, g, e)

    pub three-other : u ≡ false → None ≡ three a b c
    unfolding three
    three-other g = simp (sym q, h, sym p, g)

module _ (a b c d : List ℕ) (t : Bool) (q : t ≡ same (ascii "METAL") a) where
  pub four-metal : t ≡ true → (r : Option Field) → r ≡ long_header_in b c d → r ≡ four a b c d
  unfolding four
  four-metal h r e = simp (sym q, h, e)

  pub four-other : t ≡ false → None ≡ four a b c d
  unfolding four
  four-other h = simp (sym q, h)

module _ (a b c d e : List ℕ) (t : Bool) (q : t ≡ same (ascii "TRADE") c) where
  pub five-trade : t ≡ true → (r : Option Field) → r ≡ trade_in a b d e → r ≡ five a b c d e
  unfolding five
  five-trade h r f = simp (sym q, h, f)

  module _ (h : t ≡ false) (u : Bool) (p : u ≡ same (ascii "QUOTE") c) where
    pub five-quote : u ≡ true → (r : Option Field) → r ≡ quote_in a b d e → r ≡ five a b c d e
    unfolding five
    five-quote g r f = simp (sym q, h, sym p, g, f)

    pub five-other : u ≡ false → None ≡ five a b c d e
    unfolding five
    five-other g = simp (sym q, h, sym p, g)

-- ---- a line: each comma found in turn

module _ (s : List ℕ) (a : ℕ) (qa : a ≡ end_of 44 s 0) where
  pub line-1 : length s ≤ a → None ≡ field_in s
  unfolding field_in field_of_items
  line-1 h = sym (ap field_of_items (last-item 44 s 0 a qa h))

  module _ (ha : a < length s) (b : ℕ) (qb : b ≡ end_of 44 s (a + 1)) where
    pub line-2 : length s ≤ b → None ≡ field_in s
    unfolding field_in field_of_items
    line-2 h = sym (ap field_of_items (next-item 44 s 0 a qa ha _ (last-item 44 s (a + 1) b qb h)))

    module _ (hb : b < length s) (c : ℕ) (qc : c ≡ end_of 44 s (b + 1)) where
      pub line-3 : length s ≤ c → (r : Option Field) → r ≡ three (take a s) (take (b - (a + 1)) (drop (a + 1) s)) (take (c - (b + 1)) (drop (b + 1) s)) → r ≡ field_in s
      unfolding field_in field_of_items
      line-3 h r e =
          let z : a - 0 ≡ a = omega arith in
          e ∙ ap (λ (v : ℕ). three (take v s) (take (b - (a + 1)) (drop (a + 1) s)) (take (c - (b + 1)) (drop (b + 1) s))) (sym z)
          ∙ sym (ap field_of_items (next-item 44 s 0 a qa ha _ (next-item 44 s (a + 1) b qb hb _ (last-item 44 s (b + 1) c qc h))))

      module _ (hc : c < length s) (d : ℕ) (qd : d ≡ end_of 44 s (c + 1)) where
        pub line-4 : length s ≤ d → (r : Option Field) → r ≡ four (take a s) (take (b - (a + 1)) (drop (a + 1) s)) (take (c - (b + 1)) (drop (b + 1) s)) (take (d - (c + 1)) (drop (c + 1) s)) → r ≡ field_in s
        unfolding field_in field_of_items
        line-4 h r e =
            let z : a - 0 ≡ a = omega arith in
            e ∙ ap (λ (v : ℕ). four (take v s) (take (b - (a + 1)) (drop (a + 1) s)) (take (c - (b + 1)) (drop (b + 1) s)) (take (d - (c + 1)) (drop (c + 1) s))) (sym z)
            ∙ sym (ap field_of_items (next-item 44 s 0 a qa ha _ (next-item 44 s (a + 1) b qb hb _ (next-item 44 s (b + 1) c qc hc _ (last-item 44 s (c + 1) d qd h)))))

        module _ (hd : d < length s) (e : ℕ) (qe : e ≡ end_of 44 s (d + 1)) where
          pub line-5 : length s ≤ e → (r : Option Field) → r ≡ five (take a s) (take (b - (a + 1)) (drop (a + 1) s)) (take (c - (b + 1)) (drop (b + 1) s)) (take (d - (c + 1)) (drop (c + 1) s)) (take (e - (d + 1)) (drop (d + 1) s)) → r ≡ field_in s
          unfolding field_in field_of_items
          line-5 h r g =
              let z : a - 0 ≡ a = omega arith in
              g ∙ ap (λ (v : ℕ). five (take v s) (take (b - (a + 1)) (drop (a + 1) s)) (take (c - (b + 1)) (drop (b + 1) s)) (take (d - (c + 1)) (drop (c + 1) s)) (take (e - (d + 1)) (drop (d + 1) s))) (sym z)
              ∙ sym (ap field_of_items (next-item 44 s 0 a qa ha _ (next-item 44 s (a + 1) b qb hb _ (next-item 44 s (b + 1) c qc hc _ (next-item 44 s (c + 1) d qd hd _ (last-item 44 s (d + 1) e qe h))))))

          pub line-6 : e < length s → None ≡ field_in s
          unfolding field_in field_of_items
          line-6 h = sym (ap field_of_items (next-item 44 s 0 a qa ha _ (next-item 44 s (a + 1) b qb hb _ (next-item 44 s (b + 1) c qc hc _ (next-item 44 s (c + 1) d qd hd _ (next-item 44 s (d + 1) e qe h _ refl))))))

-- ---- a line, item by item

module _ (s : List ℕ) (is : List (List ℕ)) (e : items s ≡ is) where
  pub items-are : field_of_items is ≡ field_in s
  unfolding field_in
  items-are = ap field_of_items (sym e)

module _ (s a t b : List ℕ) (one : items s ≡ a ∷ items t) where
  pub two_items : items t ≡ b ∷ [] → None ≡ field_in s
  unfolding field_of_items
  two_items two = items-are s (a ∷ b ∷ []) (one ∙ ap (λ v. a ∷ v) two)

  module _ (u c : List ℕ) (two : items t ≡ b ∷ items u) where
    pub three_items : items u ≡ c ∷ [] → field_in s ≡ three a b c
    unfolding field_of_items
    three_items three = sym (items-are s (a ∷ b ∷ c ∷ []) (one ∙ ap (λ v. a ∷ v) (two ∙ ap (λ v. b ∷ v) three)))

    module _ (v d : List ℕ) (third : items u ≡ c ∷ items v) where
      pub four_items : items v ≡ d ∷ [] → field_in s ≡ four a b c d
      unfolding field_of_items
      four_items fourth = sym (items-are s (a ∷ b ∷ c ∷ d ∷ []) (one ∙ ap (λ v. a ∷ v) (two ∙ ap (λ v. b ∷ v) (third ∙ ap (λ v. c ∷ v) fourth))))

      module _ (w e : List ℕ) (fourth : items v ≡ d ∷ items w) where
        pub five_items : items w ≡ e ∷ [] → field_in s ≡ five a b c d e
        unfolding field_of_items
        five_items fifth = sym (items-are s (a ∷ b ∷ c ∷ d ∷ e ∷ []) (one ∙ ap (λ v. a ∷ v) (two ∙ ap (λ v. b ∷ v) (third ∙ ap (λ v. c ∷ v) (fourth ∙ ap (λ v. d ∷ v) fifth)))))

        pub more_items : (x : List ℕ) → items w ≡ e ∷ items x → field_in s ≡ None
        unfolding field_of_items
        more_items x fifth = sym (items-are s (a ∷ b ∷ c ∷ d ∷ e ∷ items x) (one ∙ ap (λ v. a ∷ v) (two ∙ ap (λ v. b ∷ v) (third ∙ ap (λ v. c ∷ v) (fourth ∙ ap (λ v. d ∷ v) fifth)))))

pub one_item : (s a : List ℕ) → items s ≡ a ∷ [] → None ≡ field_in s
unfolding field_of_items
one_item s a e = items-are s (a ∷ []) e
