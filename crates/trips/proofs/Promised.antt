-- Both ways round, of what the functions promise: each law speaks of any outcome that a function's own contract permits, whatever its code.
--     Writes, Reads, Hands         what the contracts of `write_field`, `read_field` and `field_body` permit, as the compiler generated them
--     written_read, written-body   after `write_field` says yes, `read_field` gives the same field, and `field_body` its body
--     read-written, read-written-any   after `read_field` gives a field, `write_field` says yes and puts the bytes that stood there
--     refused-empty, given-some    `field_body` hands back an empty part exactly where `read_field` refuses
-- Assumes nothing. Every count of the code fits 32 bits and every entry of a slice of bytes is a byte: `Counted` and `Bytes` say so.
use Prim.Native.Nat.{ℕ, ◌+◌, ◌-◌, ◌≤◌}
use mathlib.Core.Path.{◌≡◌, sym, ap, ◌∙◌}
use mathlib.Core.List.{List, []}
use Rattle.std.specs.Prelude.{Result, Ok, Err}
use lib.ListN.{length, take, drop}
use borrow.Fn.Kinds.{ended_of}
use contract.Lifetimes.{Lfts}
use denote.Bor.{Bor}
use denote.MutBor.{MutBor}
use denote.Triple.Clauses.{AtExit}
use Rattle.wire.specs.Big.{Bytes}
use Rattle.field.specs.declared.Field.{Field}
use Rattle.field.specs.declared.Refusal.{Refusal}
use Rattle.field.specs.Layout.{body_bytes}
use Rattle.field.specs.Said.{gives, fault_number, read_says, written_says}
use Rattle.field.specs.laws.Said.{read-once, written_once}
use Rattle.field.specs.Reading.{read_field, body_of}
use Rattle.field.specs.Writing.{field_size, written, over, buffer_after}
use Rattle.field.specs.laws.Field.{body-none, written-ok}
use Rattle.field_reader.proofs.read_field.Reads as read-field
use Rattle.field_reader.proofs.read_field.Kinds as read-fieldK
use Rattle.field_reader.proofs.field_body.Reads as field-body
use Rattle.field_reader.proofs.field_body.Kinds as field-bodyK
use Rattle.field_writer.proofs.write_field.Reads as write-field
use Rattle.field_writer.proofs.write_field.Kinds as write-fieldK
use Rattle.trips.specs.Held.{Counted}
use Rattle.trips.specs.laws.Around as around

-- `write_field`, lent a buffer that holds b, may answer x and leave the bytes `after`
pub record Writes (b : List ℕ) (at : ℕ) (f : Field) (x : Result ℕ Refusal) (after : List ℕ) : Type 0 where
  pub κs : Lfts 1
  pub buffer : MutBor (List ℕ)
  pub exit : AtExit (ended_of 1 write-fieldK.ps write-fieldK.r) κs
  pub permits : write-field.Post κs (buffer, (at, (f, tt))) x exit
  pub holds : buffer.now ≡ b
  pub leaves : exit.0.now ≡ after

-- `read_field`, lent a sheet that holds s, may answer x
pub record Reads (s : List ℕ) (at : ℕ) (x : Result (Field × ℕ) Refusal) : Type 0 where
  pub κs : Lfts 1
  pub sheet : Bor (List ℕ)
  pub exit : AtExit (ended_of 1 read-fieldK.ps read-fieldK.r) κs
  pub permits : read-field.Post κs (sheet, (at, tt)) x exit
  pub holds : sheet.now ≡ s

-- `field_body`, lent a sheet that holds s, may hand back a part that holds the bytes `body`
pub record Hands (s : List ℕ) (at : ℕ) (body : List ℕ) : Type 0 where
  pub κs : Lfts 1
  pub sheet : Bor (List ℕ)
  pub part : Bor (List ℕ)
  pub exit : AtExit (ended_of 1 field-bodyK.ps field-bodyK.r) κs
  pub permits : field-body.Post κs (sheet, (at, tt)) part exit
  pub holds : sheet.now ≡ s
  pub is : part.now ≡ body

-- ---- what the contracts say, of the bytes that were lent

-- the answer and the bytes left are the definition's
wrote : {b after : List ℕ} {at : ℕ} {f : Field} {x : Result ℕ Refusal} → Writes b at f x after → (written_says x ≡ written b at f) × (after ≡ buffer_after b at f)
wrote {b} {after} {at} {f} w =
    (w.permits.0 ∙ ap (λ (l : List ℕ). written l at f) w.holds, sym w.leaves ∙ w.permits.1 ∙ ap (λ (l : List ℕ). buffer_after l at f) w.holds)

-- the answer is the definition's
read : {s : List ℕ} {at : ℕ} {x : Result (Field × ℕ) Refusal} → Reads s at x → read_says x ≡ read_field s at
read {s} {at} r = r.permits ∙ ap (λ (l : List ℕ). read_field l at) r.holds

-- the part's bytes are the definition's
handed : {s body : List ℕ} {at : ℕ} → Hands s at body → body ≡ body_of s at
handed {s} {body} {at} r = sym r.is ∙ r.permits ∙ ap (λ (l : List ℕ). body_of l at) r.holds

-- ---- written, then read

-- where `write_field` said yes, `read_field` gives the same field and the same place
pub written_read : {b after : List ℕ} {at next : ℕ} {f : Field} {y : Result (Field × ℕ) Refusal} → Counted f → Writes b at f (Ok next) after → Reads after at y → y ≡ Ok (f, next)
written_read {b} {after} {at} {next} {f} c w r =
    let ok = written-ok b at f next (sym (wrote w).0) in
    read-once (read r) (sym (ap (λ (l : List ℕ). read_field l at) (wrote w).1 ∙ around.written_read b at f c ok.none ∙ ap (gives f) ok.behind))

-- and `field_body` hands back the field's body
pub written-body : {b after body : List ℕ} {at next : ℕ} {f : Field} → Counted f → Writes b at f (Ok next) after → Hands after at body → body ≡ body_bytes f
written-body {b} {after} {body} {at} {next} {f} c w h =
    let ok = written-ok b at f next (sym (wrote w).0) in
    handed h ∙ ap (λ (l : List ℕ). body_of l at) (wrote w).1 ∙ around.written-body b at f c ok.none

-- ---- read, then written

-- where the definition says yes, so does `write_field`
outcome : {b after : List ℕ} {p next : ℕ} {f : Field} {y : Result ℕ Refusal} → Writes b p f y after → written b p f ≡ gives tt next → y ≡ Ok next
outcome w e = written_once (wrote w).0 (sym e)

-- where `read_field` gave a field, `write_field` says yes to it at the same place of the same bytes, and leaves them as they were
pub read-written : {s after : List ℕ} {at next : ℕ} {f : Field} {y : Result ℕ Refusal} → Bytes s → Reads s at (Ok (f, next)) → Writes s at f y after → (y ≡ Ok next) × (after ≡ s)
read-written {s} {after} {at} {next} {f} b r w =
    let again = around.read-written s at f next b (sym (read r)) in
    (outcome w again.written-here, (wrote w).1 ∙ again.bytes-here)

-- and at any place of any buffer that has room, where it puts the bytes that stood in the sheet
pub read-written-any : {s c after : List ℕ} {at next p : ℕ} {f : Field} {y : Result ℕ Refusal} → Bytes s → Reads s at (Ok (f, next)) → p + field_size f ≤ length c → Writes c p f y after → (y ≡ Ok (p + field_size f)) × (after ≡ over c p (take (next - at) (drop at s)))
read-written-any {s} {c} {after} {at} {next} {p} {f} b r room w =
    let again = around.read-written s at f next b (sym (read r)) in
    (outcome w (again.written-any c p room), (wrote w).1 ∙ again.bytes-any c p room)

-- ---- the part that is handed back

-- where `read_field` refuses, `field_body` hands back an empty part
pub refused-empty : {s body : List ℕ} {at : ℕ} {refusal : Refusal} → Reads s at (Err refusal) → Hands s at body → body ≡ []
refused-empty {s} {body} {at} {refusal} r h = handed h ∙ body-none s at (fault_number refusal.fault) refusal.at (sym (read r))

-- and nowhere else: where it gives a field, the part has bytes
pub given-some : {s body : List ℕ} {at next : ℕ} {f : Field} → Reads s at (Ok (f, next)) → Hands s at body → 1 ≤ length body
given-some {s} {body} {at} {next} {f} r h = rw (handed h) (around.body-some s at f next (sym (read r)))
