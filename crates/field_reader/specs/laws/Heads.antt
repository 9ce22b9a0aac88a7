-- The head at a place, as the reader has found it, and what a read there says then.
--     Heads          the tag, the length that the head tells, and the bytes from the place on
--     head-refused   what such a head earns, the read earns
--     head-stood     where it earns nothing, its field stands there
--     head_read      and the read is what its values earn
--     settled-as     values that were read one by one
-- Assumes nothing.
use Rattle.std.specs.Prelude.{ℕ, zero, suc, ◌+◌, ◌-◌, ◌<◌, ◌≤◌, ◌≡◌, refl, Bool, true, false, List, length, get_or, take, drop, Result, Ok, Err}
use Rattle.std.proofs.Common.{sym, ap, ◌∙◌, arith}
use Rattle.wire.specs.Big.{be2_at}
use Rattle.field.specs.declared.Before.{Before}
use Rattle.field.specs.declared.Field.{Field}
use Rattle.field.specs.Judging.{fine, alone, judge}
use Rattle.field.specs.Layout.{tag_right, size_of, end_of, field_of}
use Rattle.field.specs.declared.Fault.{Fault}
use Rattle.field.specs.Said.{Said, gives, refuses, settled, fault_number}
use Rattle.field.specs.Reading.{remaining, tagged_number, head_number, read_field}
use Rattle.field.specs.laws.Field.{headed, head-short, head-there, part-is, shape-not, read-refused, unless-failed, within-true, settled-fine, settled-not}
use Rattle.field.specs.laws.Said.{fault-not-fine}
use Rattle.field.specs.laws.Standing.{Stood, stood-read}

pub record Heads (s : List ℕ) (at tag told rest : ℕ) : Type 0 where
  pub tagged : get_or s at 0 ≡ tag
  pub tells : told ≡ be2_at s (at + 1)
  pub rests : rest ≡ remaining s at
  pub some : 3 ≤ rest

pub heads : (s : List ℕ) (at : ℕ) {told rest : ℕ} → told ≡ be2_at s (at + 1) → rest ≡ remaining s at → 3 ≤ rest → Heads s at (get_or s at 0) told rest
heads s at t r h = record { tagged = refl; tells = t; rests = r; some = h }

-- a read where the head earns a number
earned : (s : List ℕ) (at n : ℕ) → n ≡ head_number s at (get_or s at 0) → (n ≡ fine → ⊥) → refuses n at ≡ read_field s at
earned s at n e none = rw e (sym (read-refused s at _ at (shape-not s at (rw e at none))))

pub too_short : (s : List ℕ) (at : ℕ) {rest : ℕ} → rest ≡ remaining s at → rest < 3 → refuses 2 at ≡ read_field s at
too_short s at r h = earned s at 2 (sym (head-short s at (get_or s at 0) (omega (arith, r, h)))) (λ e. omega arith)

module _ (s : List ℕ) (at tag : ℕ) {told rest : ℕ} (h : Heads s at tag told rest) {n : ℕ} (e : n ≡ tagged_number tag told rest) where
  number_is : n ≡ head_number s at (get_or s at 0)
  number_is = rw h.tagged (e ∙ rw (h.tells, h.rests) (sym (head-there s at tag (omega (arith, h.some, h.rests)))))

  pub head-refused : (n ≡ fine → ⊥) → refuses n at ≡ read_field s at
  head-refused none = earned s at n number_is none

  pub head-stood : n ≡ fine → Stood s at tag
  head-stood none = record { tagged = h.tagged; head = headed s at tag (rw h.tagged at (sym number_is ∙ none)) }

  pub head-whole : n ≡ fine → at + size_of tag ≤ length s
  head-whole none = (head-stood none).head.whole

-- what an answer at a place says
abbrev pub said_at : ℕ → Result (Field × ℕ) Fault → Said Field
said_at at (Ok (f, next)) = gives f next
said_at at (Err fault) = refuses (fault_number fault) at

-- the part from behind the head to the place behind the field is the body
pub head_read : (s : List ℕ) (at tag : ℕ) → Stood s at tag → {x : Said Field}
    → x ≡ settled (judge alone (field_of tag (take (at + size_of tag - (at + 3)) (drop (at + 3) s)))) at (field_of tag (take (at + size_of tag - (at + 3)) (drop (at + 3) s))) (at + size_of tag)
    → x ≡ read_field s at
head_read s at tag h e = e ∙ rw (part-is s at tag) (sym (stood-read s at tag h))

-- so the field of the body is read, or the fault that it earns
module _ (s : List ℕ) (at tag : ℕ) (t : get_or s at 0 ≡ tag) (e : head_number s at tag ≡ fine) where
  abbrev body : List ℕ
  body = take (at + size_of tag - (at + 3)) (drop (at + 3) s)

  there : Stood s at tag
  there = record { tagged = t; head = headed s at tag e }

  pub given_read : (f : Field) → f ≡ field_of tag body → judge alone f ≡ fine → gives f (at + size_of tag) ≡ read_field s at
  given_read f same none = head_read s at tag there (rw (← same) (sym (settled-fine _ at _ _ none)))

  pub fault_read : (fault : Fault) → judge alone (field_of tag body) ≡ fault_number fault → refuses (fault_number fault) at ≡ read_field s at
  fault_read fault is = head_read s at tag there (rw is (sym (settled-not _ at _ _ (fault-not-fine fault))))

-- values read one by one are those of the body
pub settled-as : (at next : ℕ) {x : Said Field} {n : ℕ} {b : Before} {f g : Field} → x ≡ settled n at f next → b ≡ alone → n ≡ judge b f → f ≡ g → x ≡ settled (judge alone g) at g next
settled-as at next e none number same = e ∙ rw (number, none, same)

-- the values of an end earn nothing
pub end_read : (s : List ℕ) (at : ℕ) → Stood s at 5 → {f : Field} → f ≡ end_of (take (at + 7 - (at + 3)) (drop (at + 3) s)) → gives f (at + 7) ≡ read_field s at
unfolding field_of judge
end_read s at h e = head_read s at 5 h (ap (λ (f : Field). gives f (at + 7)) e ∙ sym (settled-fine fine at _ (at + 7) refl))

-- a tag that is none of the six
six : (tag : ℕ) → 1 ≤ tag → tag ≤ 6 → (tag ≡ 3 → ⊥) → (tag ≡ 4 → ⊥) → (tag ≡ 2 → ⊥) → (tag ≡ 1 → ⊥) → (tag ≡ 5 → ⊥) → (tag ≡ 6 → ⊥) → ⊥
six zero l h a b c d e g = omega arith
six (suc zero) l h a b c d e g = d refl
six (suc (suc zero)) l h a b c d e g = c refl
six (suc (suc (suc zero))) l h a b c d e g = a refl
six (suc (suc (suc (suc zero)))) l h a b c d e g = b refl
six (suc (suc (suc (suc (suc zero))))) l h a b c d e g = e refl
six (suc (suc (suc (suc (suc (suc zero)))))) l h a b c d e g = g refl
six (suc (suc (suc (suc (suc (suc (suc n))))))) l h a b c d e g = omega arith

pub head-other : (s : List ℕ) (at : ℕ) {tag told rest : ℕ} → Heads s at tag told rest → (tag ≡ 3 → ⊥) → (tag ≡ 4 → ⊥) → (tag ≡ 2 → ⊥) → (tag ≡ 1 → ⊥) → (tag ≡ 5 → ⊥) → (tag ≡ 6 → ⊥) → refuses 3 at ≡ read_field s at
head-other s at {tag} {told} {rest} h a b c d e g =
    head-refused s at tag h (sym (unless-failed (tag_right tag) 3 _ (none (tag_right tag) refl))) (λ z. omega arith)
  where
    none : (t : Bool) → tag_right tag ≡ t → t ≡ false
    none false p = refl
    none true p = let w = within-true 1 6 tag p in absurd (six tag w.0 w.1 a b c d e g)
