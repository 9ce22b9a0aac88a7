-- TAPE 4, prices: dollars with two decimals, a minus before a negative one.
use Rattle.std.specs.Prelude.{ℕ, ◌+◌, ◌-◌, ◌*◌, ◌/◌, ◌%◌, cond, List, [], ◌∷◌, ◌++◌, eqb, ℤ, pos, negsuc, neg_ℤ, nat_abs, length, get_or, take, drop, Option, Some, None}
use Rattle.text.specs.Decimal.{digit, decimal}
use Rattle.numerals.specs.Numerals.{is_digit, number, given}
use Rattle.field.specs.declared.Price.{Price}

-- a point and two digits, as a number of cents
unfoldable pub pointed : List ℕ → Option ℕ
pointed s =
    cond (eqb (length s) 3)
    (cond (eqb (get_or s 0 0) 46)
    (cond (is_digit (get_or s 1 0))
    (cond (is_digit (get_or s 2 0))
    (Some ((get_or s 1 0 - 48) * 10 + (get_or s 2 0 - 48)))
    None) None) None) None

-- dollars, which stop at 10,000,000, and the last three bytes
unfoldable pub cents : List ℕ → Option ℕ
cents s =
    given None (pointed (drop (length s - 3) s))
    (λ h. given None (number 10000000 (take (length s - 3) s))
    (λ d. Some (d * 100 + h)))

abbrev pub priced : ℤ → Price
priced z = record { cents = z }

abbrev pub upward : ℕ → Option Price
upward n = Some (priced (pos n))

-- no negative zero
unfoldable pub downward : ℕ → Option Price
downward n = cond (eqb n 0) None (Some (priced (neg_ℤ (pos n))))

-- a minus, or none
unfoldable pub price : List ℕ → Option Price
price s =
    cond (eqb (get_or s 0 0) 45)
    (given None (cents (drop 1 s)) downward)
    (given None (cents s) upward)

-- ---- a price written

abbrev pub amount : ℕ → List ℕ
amount n = decimal (n / 100) ++ 46 ∷ digit (n / 10 % 10) ∷ digit (n % 10) ∷ []

unfoldable pub sign_of : ℤ → List ℕ
sign_of (pos n) = []
sign_of (negsuc n) = 45 ∷ []

abbrev pub price_text : ℤ → List ℕ
price_text z = sign_of z ++ amount (nat_abs z)
