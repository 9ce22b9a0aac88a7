-- TAPE 6: a text has at most three bytes for each byte of its sheet. Assumes nothing.
use Rattle.std.specs.Prelude.{ℕ, suc, ◌+◌, ◌*◌, ◌/◌, ◌%◌, ◌≤◌, ◌<◌, ◌≡◌, refl, Bool, true, false, List, [], ◌∷◌, ◌++◌, ℤ, pos, negsuc, nat_abs, length}
use Rattle.std.proofs.Common.{sym, ap, ◌∙◌, subst, arith, div-lt_iff_lt-mul, length-append}
use Rattle.text.specs.Ascii.{ascii}
use Rattle.text.specs.Decimal.{digit, decimal}
use Rattle.numerals.specs.laws.Numerals.{clash, digits-short}
use Rattle.wire.specs.Big.{Bytes}
use Rattle.field.specs.declared.Price.{Price}
use Rattle.field.specs.declared.Form.{Form}
use Rattle.field.specs.declared.Form.TheVariants.{Short, Long}
use Rattle.field.specs.declared.Before.{Before}
use Rattle.field.specs.declared.Field.{Field}
use Rattle.field.specs.declared.Field.TheVariants as F
use Rattle.field.specs.Judging.{alone, third_of, has_bid, has_offer}
use Rattle.field.specs.Layout.{form_tag, tag_of, size_of, field_bytes}
use Rattle.field.specs.laws.Field.{field-length}
use Rattle.field.proofs.Sound.{Sound, price-size, sides-size, marks-range}
use Rattle.admit.specs.declared.Progress.{Progress}
use Rattle.admit.specs.Admitting.{admit, ends}
use Rattle.admit.specs.laws.Admitting.{went, ended, passed-sound, first-header, Later, later-not-header, kept, end_is}
use Rattle.sheet.specs.declared.Day.{Day}
use Rattle.sheet.specs.Fields.{fields_of, encode}
use Rattle.sheet.specs.Judgement.{accepts, judge_sheet}
use Rattle.sheet.specs.laws.Accepted.{Chain, last, more, accepted-chain, accepted-small}
use Rattle.sheet.specs.laws.Encoding.{accepted-encodes}
use Rattle.dollars.specs.Dollars.{sign_of, amount, price_text}
use Rattle.names.specs.Names.{metal_name, instrument_name}
use Rattle.names.specs.laws.Names.{metal-length, instrument-length}
use Rattle.items.specs.Items.{joined_to}
use Rattle.line_reader.specs.Lines.{side_text, form_items, items_of, line_of}
use Rattle.tape.specs.Tape.{line_text, text_of}
use Rattle.tape.specs.laws.Measuring.{sheet-long}

-- ---- items

amount-short : (n : ℕ) → n ≤ 99999999 → length (amount n) ≤ 9
amount-short n h =
    let hundred : 0 < 100 = omega arith in
    let small : n / 100 < 1000000 = (div-lt_iff_lt-mul hundred).1 (omega arith) in
    omega (arith, length-append (decimal (n / 100)) (46 ∷ digit (n / 10 % 10) ∷ digit (n % 10) ∷ []), digits-short 20 5 (n / 100) small)

price-short : (z : ℤ) → nat_abs z ≤ 99999999 → length (price_text z) ≤ 10
unfolding sign_of
price-short (pos n) h = omega (arith, amount-short n h)
price-short (negsuc n) h = omega (arith, amount-short (suc n) h)

side-short : (present : Bool) (p : Price) → nat_abs p.cents ≤ 99999999 → length (side_text present p) ≤ 10
unfolding side_text
side-short true p h = price-short p.cents h
side-short false p h = omega arith

-- ---- lines

-- items, each with the byte behind it
abbrev long : List (List ℕ) → ℕ
long [] = 0
long (i ∷ is) = length i + 1 + long is

line-long : (i : List ℕ) (is : List (List ℕ)) → length (joined_to 44 i is ++ 10 ∷ []) ≡ long (i ∷ is)
line-long i [] = omega (arith, length-append i (10 ∷ []))
line-long i (j ∷ is) =
    omega (arith, line-long j is, length-append (joined_to 44 j is) (10 ∷ []), length-append i (44 ∷ joined_to 44 j is), length-append (i ++ 44 ∷ joined_to 44 j is) (10 ∷ []))

form-short : (form : Form) → third_of form ≤ 2 → long (form_items form) ≤ 2
form-short Short h = omega arith
form-short (Long third) h = omega (arith, digits-short 20 0 third (omega arith))

-- three bytes for each byte of a header are too few for its line; the end pays the rest, whose seven bytes have no line
header-short : (before : Before) (metal marks : ℕ) (form : Form) → Sound before (F.Header metal marks form) → length (line_text (F.Header metal marks form)) ≤ 23
unfolding line_text line_of items_of
header-short before metal marks form h =
    let k = marks-range metal marks (third_of form) h in
    omega (arith, line-long (ascii "METAL") (metal_name metal ∷ decimal marks ∷ form_items form), metal-length metal, digits-short 20 3 marks (omega (arith, k.0)), form-short form k.1)

header-size : (form : Form) → 6 ≤ size_of (form_tag form)
header-size Short = omega arith
header-size (Long third) = omega arith

line-short : (before : Before) (f : Field) → Sound before f → Later f → length (line_text f) ≤ 3 * size_of (tag_of f)
unfolding line_text line_of items_of tag_of
line-short before (F.Header metal marks form) h n = absurd n
line-short before (F.PreviousClose instrument p) h n =
    omega (arith, line-long (ascii "PREV") (instrument_name instrument ∷ price_text p.cents ∷ []), instrument-length instrument, price-short p.cents (price-size instrument p h.1))
line-short before (F.Trade time instrument p lots) h n =
    let t = h.stamp.in-day in
    let m = h.most in
    omega (arith, line-long (decimal time) (instrument_name instrument ∷ ascii "TRADE" ∷ price_text p.cents ∷ decimal lots ∷ []), digits-short 20 7 time (omega arith), instrument-length instrument, price-short p.cents (price-size instrument p h.price-in), digits-short 20 4 lots (omega arith))
line-short before (F.Quote time instrument sides bid offer) h n =
    let t = h.stamp.in-day in
    let z = sides-size before time instrument sides bid offer h in
    omega (arith, line-long (decimal time) (instrument_name instrument ∷ ascii "QUOTE" ∷ side_text (has_bid sides) bid ∷ side_text (has_offer sides) offer ∷ []), digits-short 20 7 time (omega arith), instrument-length instrument, side-short (has_bid sides) bid z.0, side-short (has_offer sides) offer z.1)
line-short before (F.End count) h n = omega arith

-- so no line of a right field is longer than 51 bytes
pub line-most : (f : Field) → Sound alone f → length (line_text f) ≤ 51
unfolding tag_of
line-most (F.Header metal marks form) h = omega (arith, header-short alone metal marks form h)
line-most (F.PreviousClose instrument p) h = omega (arith, line-short alone (F.PreviousClose instrument p) h tt)
line-most (F.Trade time instrument p lots) h = omega (arith, line-short alone (F.Trade time instrument p lots) h tt)
line-most (F.Quote time instrument sides bid offer) h = omega (arith, line-short alone (F.Quote time instrument sides bid offer) h tt)
line-most (F.End count) h = omega (arith, line-short alone (F.End count) h tt)

-- ---- texts

-- behind the header
later-short : {p : Progress} {fs : List Field} {day : Day} → Chain p fs day → 1 ≤ p.stage → length (text_of fs) + 21 ≤ 3 * length (encode fs)
unfolding text_of encode line_text tag_of
later-short (last {p = p} {f = f} e) s = rw (end_is p f e) (omega (arith, sheet-long [] p.count))
later-short (more {p = p} {q = q} {f = f} {fs = fs} e c) s =
    let w = (went p f q e).0 in
    let l = line-short alone f (passed-sound p f w) (later-not-header p f w s) in
    let i = later-short c (kept p f q e).later in
    omega (arith, l, i, length-append (line_text f) (text_of fs), length-append (field_bytes f) (encode fs), field-length f)

no_header : (f : Field) (metal marks count : ℕ) (form : Form) → f ≡ F.Header metal marks form → f ≡ F.End count → ⊥
no_header f metal marks count form h e = let z : F.Header metal marks form ≡ F.End count = sym h ∙ e in clash cc

-- the header first
whole-short : {p : Progress} {fs : List Field} {day : Day} → Chain p fs day → p.stage ≡ 0 → length (text_of fs) ≤ 3 * length (encode fs)
unfolding text_of encode tag_of
whole-short (last {p = p} {f = f} e) s = absurd (headed p f e s)
  where
    headed : (p : Progress) (f : Field) → admit p f ≡ ends → p.stage ≡ 0 → ⊥
    headed p f e s = let w = (ended p f e).0 in let h = first-header p f w s in no_header f h.metal h.marks p.count h.form h.is (end_is p f e)
whole-short (more {p = p} {q = q} {f = f} {fs = fs} e c) s =
    let w = (went p f q e).0 in
    let h = first-header p f w s in
    let i = later-short c (kept p f q e).later in
    let g = F.Header h.metal h.marks h.form in
    rw h.is
    (omega (arith, header-short alone h.metal h.marks h.form (subst (Sound alone) h.is (passed-sound p f w)), header-size h.form, i, length-append (line_text g) (text_of fs), length-append (field_bytes g) (encode fs), field-length g))

pub text-short : (s : List ℕ) (day : Day) → Bytes s → judge_sheet s ≡ accepts day → length (text_of (fields_of s)) ≤ 3 * length s
text-short s day bytes e = omega (arith, whole-short (accepted-chain s day e) refl, ap length (accepted-encodes s day bytes e))

-- so no accepted sheet has a text of more than 3,145,728 bytes
pub text-most : (s : List ℕ) (day : Day) → Bytes s → judge_sheet s ≡ accepts day → length (text_of (fields_of s)) ≤ 3145728
text-most s day bytes e = omega (arith, text-short s day bytes e, accepted-small s day e)
