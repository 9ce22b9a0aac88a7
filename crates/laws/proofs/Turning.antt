-- T-TURN, the second law of demand 3, on the bytes of a sheet.
--     turn-right        a turned field stays right: the ranges of a spread lie about zero
--     figures-turned    the figures of a turned sheet are turned
--     turns             the law;  twice    turned round twice, the sheet is as it was
-- Assumes nothing.
use Rattle.std.specs.Prelude.{ℕ, zero, suc, ◌+◌, ◌*◌, ◌/◌, ◌%◌, ◌≤◌, ◌≡◌, refl, Bool, true, false, cond, List, [], ◌∷◌, map, eqb, ℤ, pos, neg_ℤ, ◌+ℤ◌, ◌*ℤ◌}
use Rattle.std.proofs.Common.{sym, ap, ap₂, subst, ◌∙◌, arith, le-leb, leb-true, ne_eqb}
use Rattle.std.proofs.Math.IntN.{neg_ℤ-neg_ℤ, neg_ℤ-+ℤ}
use Rattle.std.specs.Int.Signed.{le_z, le_z_yes}
use Rattle.wire.specs.Big.{Bytes}
use Rattle.cents.specs.laws.Whole.{is, is-neg, is-*, is_pos, show-≡, show-≤, read-≤}
use Rattle.field.specs.declared.Price.{Price}
use Rattle.field.specs.declared.Form.{Form}
use Rattle.field.specs.declared.Before.{Before}
use Rattle.field.specs.declared.Field.{Field}
use Rattle.field.specs.declared.Field.TheVariants.{Header, PreviousClose, Trade, Quote, End}
use Rattle.field.specs.Judging.{both, pick, if_present, if_absent, cents_within, third_of, header_right, price_right, has_bid, has_offer, alone}
use Rattle.field.specs.laws.Field.{both_true, both-holds}
use Rattle.field.proofs.Sound.{Sound, SoundQuote}
use Rattle.market.specs.Market.{start_of}
use Rattle.admit.specs.laws.Admitting.{Later}
use Rattle.sheet.specs.declared.Day.{Day}
use Rattle.sheet.specs.Fields.{fields_of, encode, Each}
use Rattle.sheet.specs.Judgement.{accepts, judge_sheet}
use Rattle.sheet.specs.laws.Accepted.{accepted-header, accepted-right, accepted-sound}
use Rattle.sheet.specs.laws.Encoding.{accepted-encodes}
use Rattle.trades.specs.Trades.{Deal, trades_in, lots_in, value_in}
use Rattle.indicator.specs.Indicator.{twap_sum, has_reference}
use Rattle.field.specs.Repriced.{concerns, changed, turn_price, turn_sides, turn_field}
use Rattle.indicator.specs.laws.Changed.{repriced-keeps}
use Rattle.indicator.proofs.Moved.{Fair, turned-reference}
use Rattle.indicator.proofs.Moved as moved
use Rattle.twap.specs.Span.{missing, sum, span_of}
use Rattle.price_rules.specs.Closing.{figures_of, closings_of, six}
use Rattle.laws.specs.Demand.{turned_marks, remarked, turned_field, turned, turned_day, TurnLaw, TwiceLaw}
use Rattle.laws.specs.laws.Marks.{xor-twice, mark-turned, mark-kept, marks-small}
use Rattle.laws.specs.laws.Kept.{Right, changed-all, right-changed, changedFields, changed-accepted}
use Rattle.laws.specs.laws.Figures.{repriced_deal, trades-changed, trades-others, lots-kept, trades-header, span-header, span-others, le-true}
use Rattle.laws.proofs.Lift.{answers-are}
use Rattle.laws.specs.laws.Turn.{turned_span, Turned, turn}

-- ---- a turned field stays right

-- a range about zero
range-turned : (n : ℕ) (p : Price) → cents_within (neg_ℤ (pos n)) (pos n) p ≡ true → cents_within (neg_ℤ (pos n)) (pos n) (turn_price p) ≡ true
range-turned n p h =
    let u = both_true (le_z (neg_ℤ (pos n)) p.cents) (le_z p.cents (pos n)) h in
    let low = read-≤ (is-neg (is_pos n)) (is p.cents) (le_z_yes (rw u.0 tt)) in
    let high = read-≤ (is p.cents) (is_pos n) (le_z_yes (rw u.1 tt)) in
    both-holds _ _ (le-true (show-≤ (is-neg (is_pos n)) (is-neg (is p.cents)) (omega arith))) (le-true (show-≤ (is-neg (is p.cents)) (is_pos n) (omega arith)))

-- a spread's prices
price-turned : (k : ℕ) (p : Price) → price_right (suc k) p ≡ true → price_right (suc k) (turn_price p) ≡ true
unfolding pick
price-turned k p h = let z = ne_eqb (suc k) 0 (λ e. omega arith) in rw z (range-turned 9999999 p (rw z at h))

-- a side that is there or not
present-turned : (k : ℕ) (here : Bool) (p : Price) → if_present here (price_right (suc k) p) ≡ true → if_present here (price_right (suc k) (turn_price p)) ≡ true
unfolding pick
present-turned k true p h = price-turned k p h
present-turned k false p h = refl

absent-turned : (here : Bool) (p : Price) → if_absent here (cents_within (pos 0) (pos 0) p) ≡ true → if_absent here (cents_within (pos 0) (pos 0) (turn_price p)) ≡ true
unfolding pick
absent-turned true p h = refl
absent-turned false p h = range-turned 0 p h

order-turned : (b o : Bool) (bid offer : Price) → if_present (both b o) (le_z bid.cents offer.cents) ≡ true → if_present (both o b) (le_z (turn_price offer).cents (turn_price bid).cents) ≡ true
unfolding pick both
order-turned true true bid offer h = le-true (show-≤ (is-neg (is offer.cents)) (is-neg (is bid.cents)) (omega (arith, read-≤ (is bid.cents) (is offer.cents) (le_z_yes (rw h tt)))))
order-turned true false bid offer h = refl
order-turned false true bid offer h = refl
order-turned false false bid offer h = refl

-- the bits of the sides, exchanged
abbrev exchanged : ℕ → ℕ
exchanged sides = 2 * (sides % 2) + sides / 2 % 2

low_bit : (sides : ℕ) → exchanged sides % 2 ≡ sides / 2 % 2
low_bit sides = omega arith

high_bit : (sides : ℕ) → exchanged sides / 2 % 2 ≡ sides % 2
high_bit sides = omega arith

exchanged-twice : (sides : ℕ) → sides ≤ 3 → exchanged (exchanged sides) ≡ sides
exchanged-twice sides few = rw (low_bit sides, high_bit sides) (omega arith)

bid-is-offer : (sides : ℕ) → has_bid (exchanged sides) ≡ has_offer sides
bid-is-offer sides = ap (λ (n : ℕ). eqb n 1) (low_bit sides)

offer-is-bid : (sides : ℕ) → has_offer (exchanged sides) ≡ has_bid sides
offer-is-bid sides = ap (λ (n : ℕ). eqb n 1) (high_bit sides)

quote-turned : (before : Before) (time k sides : ℕ) (bid offer : Price) → SoundQuote before time (suc k) sides bid offer → SoundQuote before time (suc k) (exchanged sides) (turn_price offer) (turn_price bid)
quote-turned before time k sides bid offer h =
    let absent = both_true _ _ (both_true _ _ h.sides-in).1 in
    let there = both_true _ _ h.prices-in in
    let most : exchanged sides ≤ 3 = omega arith in
    record {
      stamp = h.stamp;
      sides-in = both-holds _ _ (le-leb (exchanged sides) 3 most) (rw (bid-is-offer sides, offer-is-bid sides) (both-holds _ _ (absent-turned (has_offer sides) offer absent.1) (absent-turned (has_bid sides) bid absent.0)));
      prices-in = rw (bid-is-offer sides, offer-is-bid sides) (both-holds _ _ (present-turned k (has_offer sides) offer there.1) (present-turned k (has_bid sides) bid there.0));
      in_order = rw (bid-is-offer sides, offer-is-bid sides) (order-turned (has_bid sides) (has_offer sides) bid offer h.in_order);
    }

-- nothing else has to hold of a field of a spread
each-unit : (fs : List Field) → Each (λ f. Unit {0}) fs
each-unit [] = tt
each-unit (f ∷ fs) = (tt, each-unit fs)

turn-right : (k : ℕ) (fs : List Field) → Each (Right (changed (suc k) turn_field)) fs
turn-right k fs =
    right-changed (suc k) turn_price turn_sides (λ f. Unit {0})
    (λ price ok h. price-turned k price h)
    (λ time price lots ok h. price-turned k price h)
    (λ before time sides bid offer ok h. quote-turned before time k sides bid offer h)
    fs (each-unit fs)

-- ---- a turned sheet's figures

-- no accepted quote has a bid above its offer
fair-sound : (fs : List Field) → Each (Sound alone) fs → Fair fs
fair-sound [] h = tt
fair-sound (Header metal marks form ∷ fs) h = fair-sound fs h.1
fair-sound (PreviousClose instrument price ∷ fs) h = fair-sound fs h.1
fair-sound (Trade time instrument price lots ∷ fs) h = fair-sound fs h.1
fair-sound (Quote time instrument sides bid offer ∷ fs) h = (h.0.in_order, fair-sound fs h.1)
fair-sound (End count ∷ fs) h = fair-sound fs h.1

value-turned : (ds : List Deal) → value_in (map (repriced_deal turn_price) ds) ≡ neg_ℤ (value_in ds)
unfolding value_in
value-turned [] = refl
value-turned (d ∷ ds) =
    ap (λ (z : ℤ). pos d.lots *ℤ neg_ℤ d.price +ℤ z) (value-turned ds)
    ∙ ap (λ (z : ℤ). z +ℤ neg_ℤ (value_in ds)) (show-≡ (is-* d.lots (is-neg (is d.price))) (is-neg (is-* d.lots (is d.price))) (omega arith))
    ∙ sym (neg_ℤ-+ℤ (pos d.lots *ℤ d.price) (value_in ds))

span-turned : (i start : ℕ) (fs : List Field) → Fair fs → span_of i start (map (changed i turn_field) fs) ≡ turned_span (span_of i start fs)
unfolding span_of
span-turned i start fs fair = ap₂ (λ (b : Bool) (z : ℤ). cond b (sum z) missing) (turned-reference i fs start) (moved.turned i fs start fair) ∙ by (has_reference i start fs)
  where
    by : (b : Bool) → cond b (sum (neg_ℤ (twap_sum i start fs))) missing ≡ turned_span (cond b (sum (twap_sum i start fs)) missing)
    by true = refl
    by false = refl

-- behind a header whose mark is turned too
figures-turned : (i metal marks third : ℕ) (form : Form) (rest : List Field) → 1 ≤ i → Fair (Header metal marks form ∷ rest)
    → Turned i (figures_of metal marks third (Header metal marks form ∷ rest)) (figures_of metal (turned_marks i marks) third (Header metal (turned_marks i marks) form ∷ map (changed i turn_field) rest))
unfolding figures_of
figures-turned i metal marks third form rest low fair =
    let fs = Header metal marks form ∷ rest in
    let own = trades-header metal i metal (turned_marks i marks) marks form form (map (changed i turn_field) rest) ∙ trades-changed metal i turn_price turn_sides fs in
    record {
      metal = refl;
      third = refl;
      mark = mark-turned marks i low;
      lots = ap lots_in own ∙ lots-kept turn_price (trades_in metal i fs);
      value = ap value_in own ∙ value-turned (trades_in metal i fs);
      span = span-header i (start_of metal i) metal (turned_marks i marks) marks form form (map (changed i turn_field) rest) ∙ span-turned i (start_of metal i) fs fair;
      marks_stay = λ j h. mark-kept marks i j low h;
      trades-stay = λ j h. trades-header metal j metal (turned_marks i marks) marks form form (map (changed i turn_field) rest) ∙ trades-others metal i turn_price turn_sides j h fs;
      spans-stay = λ j h. span-header j (start_of metal j) metal (turned_marks i marks) marks form form (map (changed i turn_field) rest) ∙ span-others i j (start_of metal j) turn_price turn_sides h fs;
    }

-- ---- the law

-- only the header has marks
remarked-other : (m : ℕ → ℕ) (f : Field) → Later f → remarked m f ≡ f
remarked-other m (Header metal marks form) h = absurd h
remarked-other m (PreviousClose instrument price) h = refl
remarked-other m (Trade time instrument price lots) h = refl
remarked-other m (Quote time instrument sides bid offer) h = refl
remarked-other m (End count) h = refl

later-turned : (i : ℕ) (f : Field) → Later f → Later (changed i turn_field f)
later-turned i f h = changed-all Later i turn_field f (later-repriced f h) h
  where
    later-repriced : (f : Field) → Later f → Later (turn_field f)
    later-repriced (Header metal marks form) h = h
    later-repriced (PreviousClose instrument price) h = h
    later-repriced (Trade time instrument price lots) h = h
    later-repriced (Quote time instrument sides bid offer) h = h
    later-repriced (End count) h = h

turned-other : (i : ℕ) (fs : List Field) → Each Later fs → map (turned_field i) fs ≡ map (changed i turn_field) fs
turned-other i [] h = refl
turned-other i (f ∷ fs) h = ap₂ ◌∷◌ (remarked-other (turned_marks i) (changed i turn_field f) (later-turned i f h.0)) (turned-other i fs h.1)

-- the fields of the turned sheet, and that they are read back
record TurnedFields (i : ℕ) (s : List ℕ) (day : Day) : Type 0 where
  rest : List Field
  is-before : fields_of s ≡ Header day.metal day.marks day.form ∷ rest
  is-after : map (turned_field i) (fields_of s) ≡ Header day.metal (turned_marks i day.marks) day.form ∷ map (changed i turn_field) rest
  judged : judge_sheet (turned i s) ≡ accepts (turned_day i day)
  read : fields_of (turned i s) ≡ map (turned_field i) (fields_of s)

turned-fields : (s : List ℕ) (day : Day) → Bytes s → judge_sheet s ≡ accepts day → (i : ℕ) → 1 ≤ i → i ≤ 11 → TurnedFields i s day
unfolding turned
turned-fields s day b a zero low high = absurd (omega arith)
turned-fields s day b a (suc k) low high =
    let i = suc k in
    let first = accepted-header s day a in
    let m = turned_marks i day.marks in
    let same : map (turned_field i) (fields_of s) ≡ changedFields s day b a i turn_price turn_sides m = ap (map (turned_field i)) first.is ∙ ap (λ (fs : List Field). Header day.metal m day.form ∷ fs) (turned-other i first.rest first.only) in
    let header = both_true _ _ (accepted-right s day a) in
    let marks = both_true _ _ header.1 in
    let right : header_right day.metal m (third_of day.form) ≡ true = both-holds _ _ header.0 (both-holds _ _ (le-leb m 2047 (marks-small day.marks i (leb-true day.marks 2047 marks.0) low high)) marks.1) in
    let kept = changed-accepted s day b a i turn_price turn_sides m right (turn-right k first.rest) in
    record {
      rest = first.rest;
      is-before = first.is;
      is-after = same;
      judged = ap (λ (fs : List Field). judge_sheet (encode fs)) same ∙ kept.0;
      read = ap (λ (fs : List Field). fields_of (encode fs)) same ∙ kept.1 ∙ sym same;
    }

-- for every accepted sheet and every spread
pub turns : TurnLaw
turns s day zero b a low high = absurd (omega arith)
turns s day (suc k) b a low high =
    let i = suc k in
    let m = turned_marks i day.marks in
    let t = turned-fields s day b a i low high in
    let fair = fair-sound (Header day.metal day.marks day.form ∷ t.rest) (subst (Each (Sound alone)) t.is-before (accepted-sound s day a)) in
    record {
      accepted = t.judged;
      answers = closings_of (figures_of day.metal day.marks (third_of day.form) (fields_of s));
      was = answers-are s day a;
      is-now =
          answers-are (turned i s) (turned_day i day) t.judged
          ∙ ap (λ (fs : List Field). six (turned_day i day) (closings_of (figures_of day.metal m (third_of day.form) fs))) (t.read ∙ t.is-after)
          ∙ ap (six (turned_day i day)) (turn k (omega arith) (figures-turned i day.metal day.marks (third_of day.form) day.form t.rest low fair))
          ∙ ap (λ (fs : List Field). six (turned_day i day) (closings_of (figures_of day.metal day.marks (third_of day.form) fs))) (sym t.is-before);
    }

-- ---- twice

-- a change that undoes itself, at one instrument
changed-twice : (i : ℕ) (g : Field → Field) (f : Field) → concerns i (g f) ≡ concerns i f → g (g f) ≡ f → changed i g (changed i g f) ≡ f
changed-twice i g f same undone = by-test (concerns i f) refl
  where
    by-test : (b : Bool) → concerns i f ≡ b → changed i g (cond b (g f) f) ≡ f
    by-test true e = rw (same ∙ e) undone
    by-test false e = rw e refl

turn_twice : (f : Field) → Sound alone f → turn_field (turn_field f) ≡ f
turn_twice (Header metal marks form) h = refl
turn_twice (PreviousClose instrument price) h = rw (neg_ℤ-neg_ℤ price.cents) refl
turn_twice (Trade time instrument price lots) h = rw (neg_ℤ-neg_ℤ price.cents) refl
turn_twice (Quote time instrument sides bid offer) h =
    let few = leb-true sides 3 (both_true _ _ h.sides-in).0 in
    rw (exchanged-twice sides few, neg_ℤ-neg_ℤ bid.cents, neg_ℤ-neg_ℤ offer.cents) refl
turn_twice (End count) h = refl

module _ (i : ℕ) where
  other-twice : (f : Field) → Sound alone f → Later f → turned_field i (turned_field i f) ≡ f
  other-twice f h n =
      let g = changed i turn_field f in
      ap (turned_field i) (remarked-other (turned_marks i) g (later-turned i f n))
      ∙ remarked-other (turned_marks i) (changed i turn_field g) (later-turned i g (later-turned i f n))
      ∙ changed-twice i turn_field f ((repriced-keeps turn_price turn_sides).instrument i f) (turn_twice f h)

  field-twice : (f : Field) → Sound alone f → turned_field i (turned_field i f) ≡ f
  field-twice (Header metal marks form) h = ap (λ (n : ℕ). Header metal n form) (xor-twice marks _)
  field-twice (PreviousClose instrument price) h = other-twice (PreviousClose instrument price) h tt
  field-twice (Trade time instrument price lots) h = other-twice (Trade time instrument price lots) h tt
  field-twice (Quote time instrument sides bid offer) h = other-twice (Quote time instrument sides bid offer) h tt
  field-twice (End count) h = other-twice (End count) h tt

  fields-twice : (fs : List Field) → Each (Sound alone) fs → map (turned_field i) (map (turned_field i) fs) ≡ fs
  fields-twice [] h = refl
  fields-twice (f ∷ fs) h = ap₂ ◌∷◌ (field-twice f h.0) (fields-twice fs h.1)

-- turned round twice it is the sheet that it was
pub twice : TwiceLaw
unfolding turned
twice s day i b a low high =
    let t = turned-fields s day b a i low high in
    ap (λ (fs : List Field). encode (map (turned_field i) fs)) t.read
    ∙ ap encode (fields-twice i (fields_of s) (accepted-sound s day a))
    ∙ sym (accepted-encodes s day b a)
