-- A field's body and its values, both ways round.
--     values-back   a body made of held values, read again, is those values
--     bytes_back    a body of bytes, read and made again, is those bytes
-- Assumes nothing.
use Rattle.std.specs.Prelude.{ℕ, zero, suc, ◌+◌, ◌≤◌, ◌<◌, ◌≡◌, refl, true, List, [], ◌∷◌, ◌++◌, length, get_or, take, drop}
use Rattle.std.proofs.Common.{ap, ◌∙◌, arith, take_all, drop-cons}
use Rattle.wire.specs.Big.{Bytes}
use Rattle.wire.specs.laws.Trips.{be2-bytes2, be4-bytes4, signed-signed_bytes, bytes2-at, bytes4-at, signed_bytes-at}
use Rattle.field.specs.declared.Form.TheVariants.{Short, Long}
use Rattle.field.specs.declared.Field.{Field}
use Rattle.field.specs.declared.Field.TheVariants.{Header, PreviousClose, Trade, Quote, End}
use Rattle.field.specs.Judging.{both, within}
use Rattle.field.specs.Layout.{tag_right, length_of, tag_of, body_bytes, field_of}
use Rattle.field.specs.laws.Field.{within-true}
use Rattle.trips.specs.Held.{Held}

-- values, body, values
pub values-back : (f : Field) → Held f → field_of (tag_of f) (body_bytes f) ≡ f
unfolding tag_of body_bytes field_of
values-back (Header metal marks Short) h = simp (be2-bytes2 marks h)
values-back (Header metal marks (Long third)) h = simp (be2-bytes2 marks h)
values-back (PreviousClose instrument price) h = simp (signed-signed_bytes price.cents h)
values-back (Trade time instrument price lots) h = simp (be4-bytes4 time h.0, signed-signed_bytes price.cents h.1, be2-bytes2 lots h.2)
values-back (Quote time instrument sides bid offer) h = simp (be4-bytes4 time h.0, signed-signed_bytes bid.cents h.1, signed-signed_bytes offer.cents h.2)
values-back (End count) h = simp (be4-bytes4 count h)

-- n entries of a list from a place on, one by one
abbrev pub row : List ℕ → ℕ → ℕ → List ℕ
row b i zero = []
row b i (suc n) = get_or b i 0 ∷ row b (suc i) n

-- they are the part of the list there, and all of a list of n entries
pub row-part : (n i : ℕ) (b : List ℕ) → i + n ≤ length b → row b i n ≡ take n (drop i b)
row-part zero i b h = refl
row-part (suc n) i b h = rw (drop-cons b i 0 (omega arith)) (ap (λ (l : List ℕ). get_or b i 0 ∷ l) (row-part n (suc i) b (omega arith)))

row-all : (n : ℕ) (b : List ℕ) → length b ≡ n → row b 0 n ≡ b
row-all n b e = row-part n 0 b (omega arith) ∙ take_all n b (omega arith)

-- what holds of each tag by itself holds of every tag that is one
each-tag : (P : ℕ → Type 0) → P 1 → P 2 → P 3 → P 4 → P 5 → P 6 → (tag : ℕ) → tag_right tag ≡ true → P tag
each-tag P p q r s u v zero t = absurd (omega (arith, within-true 1 6 0 t))
each-tag P p q r s u v (suc zero) t = p
each-tag P p q r s u v (suc (suc zero)) t = q
each-tag P p q r s u v (suc (suc (suc zero))) t = r
each-tag P p q r s u v (suc (suc (suc (suc zero)))) t = s
each-tag P p q r s u v (suc (suc (suc (suc (suc zero))))) t = u
each-tag P p q r s u v (suc (suc (suc (suc (suc (suc zero)))))) t = v
each-tag P p q r s u v (suc (suc (suc (suc (suc (suc (suc n))))))) t = absurd (omega (arith, within-true 1 6 (suc (suc (suc (suc (suc (suc (suc n))))))) t))

-- no body is empty, and the length of each fits two bytes
pub record Sized (tag : ℕ) : Type 0 where
  pub some : 1 ≤ length_of tag
  pub small : length_of tag < 65536

pub sized : (tag : ℕ) → tag_right tag ≡ true → Sized tag
unfolding both
sized tag t =
    let u = within-true 1 65535 (length_of tag) (each-tag (λ (n : ℕ). within 1 65535 (length_of n) ≡ true) refl refl refl refl refl refl tag t) in
    record { some = u.0; small = omega (arith, u.1) }

-- two parts with others between them, each part by itself
parts : {p q r s : List ℕ} → p ≡ q → (between : List ℕ) → r ≡ s → p ++ between ++ r ≡ q ++ between ++ s
parts e between d = cc

-- body, values, body: the tag stays, and every byte
pub bytes_back : (tag : ℕ) (b : List ℕ) → Bytes b → tag_right tag ≡ true → length b ≡ length_of tag → (tag_of (field_of tag b) ≡ tag) × (body_bytes (field_of tag b) ≡ b)
unfolding tag_of body_bytes field_of
bytes_back tag b h =
    each-tag (λ (n : ℕ). length b ≡ length_of n → (tag_of (field_of n b) ≡ n) × (body_bytes (field_of n b) ≡ b))
    (λ e. (refl, simp (bytes2-at b h 1) (row-all 3 b e)))
    (λ e. (refl, simp (signed_bytes-at b h 1) (row-all 5 b e)))
    (λ e. (refl, parts (bytes4-at b h 0) (get_or b 4 0 ∷ []) (parts (signed_bytes-at b h 5) [] (bytes2-at b h 9)) ∙ row-all 11 b e))
    (λ e. (refl, parts (bytes4-at b h 0) (get_or b 4 0 ∷ get_or b 5 0 ∷ []) (parts (signed_bytes-at b h 6) [] (signed_bytes-at b h 10)) ∙ row-all 14 b e))
    (λ e. (refl, simp (bytes4-at b h 0) (row-all 4 b e)))
    (λ e. (refl, ap (λ (l : List ℕ). get_or b 0 0 ∷ l ++ get_or b 3 0 ∷ []) (bytes2-at b h 1) ∙ row-all 4 b e))
    tag
