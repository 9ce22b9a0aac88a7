-- The forms of TAPE 4. Assumes nothing.
use Rattle.std.specs.Prelude.{◌≡◌, refl, pos, negsuc, Some, None}
use Rattle.text.specs.Ascii.{ascii}
use Rattle.numerals.specs.Numerals.{is_digit, risen, number_from, opens, number}
use Rattle.dollars.specs.Dollars.{pointed, cents, priced, downward, price}

good : (price (ascii "9202.25") ≡ Some (priced (pos 920225))) × (price (ascii "0.50") ≡ Some (priced (pos 50))) × (price (ascii "-0.50") ≡ Some (priced (negsuc 49))) × (price (ascii "0.00") ≡ Some (priced (pos 0)))
unfolding is_digit risen number_from opens number pointed cents downward price
good = (refl, refl, refl, refl)

bad : (price (ascii "-0.00") ≡ None) × (price (ascii ".50") ≡ None) × (price (ascii "00.50") ≡ None) × (price (ascii "1.5") ≡ None) × (price (ascii "1") ≡ None) × (price (ascii "+1.00") ≡ None) × (price (ascii "") ≡ None) × (price (ascii "-") ≡ None) × (price (ascii "--1.00") ≡ None) × (price (ascii "1.000") ≡ None)
unfolding is_digit risen number_from opens number pointed cents downward price
bad = (refl, refl, refl, refl, refl, refl, refl, refl, refl, refl)

-- any number of digits is well formed, and out of every range
big : price (ascii "123456789012345678901234567890.01") ≡ Some (priced (pos 1000000001))
unfolding is_digit risen number_from opens number pointed cents downward price
big = refl
