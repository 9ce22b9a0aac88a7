-- A sheet as a list: what stands at byte 0, at the place behind that, and so on. Any bytes have such a list; its last entry is a refusal.
use Rattle.std.specs.Prelude.{ℕ, zero, suc, ◌-◌, List, [], ◌∷◌, ◌++◌, length}
use Rattle.field.specs.declared.Field.{Field}
use Rattle.field.specs.Layout.{field_bytes}
use Rattle.field.specs.Said.{Said, gives, refuses}
use Rattle.field.specs.Reading.{shape_at}

-- goes on behind a field, and stops at a refusal
unfoldable pub behind : Said Field → (ℕ → List (Said Field)) → List (Said Field)
behind (gives f next) rest = rest next
behind (refuses number place) rest = []

-- at most so many reads from a place on
unfoldable pub reads_from : ℕ → List ℕ → ℕ → List (Said Field)
reads_from zero s at = []
reads_from (suc k) s at = shape_at s at ∷ behind (shape_at s at) (reads_from k s)

-- a field has a byte or more, so that one read more than bytes are left is enough
unfoldable pub reads_at : List ℕ → ℕ → List (Said Field)
reads_at s at = reads_from (suc (length s - at)) s at

-- the fields alone
unfoldable pub fields_in : List (Said Field) → List Field
fields_in [] = []
fields_in (gives f next ∷ rs) = f ∷ fields_in rs
fields_in (refuses number place ∷ rs) = fields_in rs

unfoldable pub fields_at : List ℕ → ℕ → List Field
fields_at s at = fields_in (reads_at s at)

abbrev pub fields_of : List ℕ → List Field
fields_of s = fields_at s 0

-- the bytes of fields, end to end
unfoldable pub encode : List Field → List ℕ
encode [] = []
encode (f ∷ fs) = field_bytes f ++ encode fs

-- something holds of each
abbrev pub Each : (Field → Type 0) → List Field → Type 0
Each P [] = Unit {0}
Each P (f ∷ fs) = P f × Each P fs
