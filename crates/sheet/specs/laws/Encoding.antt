-- An accepted sheet is exactly the bytes of its fields, and fields that may stand so make an accepted sheet: no two sheets say the same, and
-- nothing is lost in reading.
--     accepted-encodes    an accepted sheet is the bytes of its fields
--     encoded-accepted    the bytes of fields that lead to a right end are accepted, and give the fields back
--     accepted-once       accepted sheets with the same fields are the same sheet
-- Assumes nothing.
use Rattle.std.specs.Prelude.{ℕ, ◌≤◌, ◌≡◌, refl, List, [], length}
use Rattle.std.proofs.Common.{sym, ◌∙◌, ap, append-nil, arith, le-leb, eq-eqb, drop_of_length-le}
use Rattle.wire.specs.Big.{Bytes}
use Rattle.field.specs.declared.Field.{Field}
use Rattle.trips.specs.Held.{Held}
use Rattle.admit.specs.declared.Progress.{Progress}
use Rattle.admit.specs.Admitting.{start}
use Rattle.admit.specs.laws.Admitting.{went, ended}
use Rattle.sheet.specs.declared.Day.{Day}
use Rattle.sheet.specs.Fields.{reads_at, fields_of, encode, Each}
use Rattle.sheet.specs.Judgement.{accepts, at_end, after, judge_reads, judge_sheet}
use Rattle.sheet.specs.laws.Walk.{reads-gave, fields-stop, shape-past}
use Rattle.sheet.specs.laws.Accepted.{Chain, last, more, accepted-stood}
use Rattle.sheet.specs.laws.Led.{Stood, here, then, stood-fields, stood-bytes, bytes-stood, passed-held}

-- ---- from the sheet to its fields' bytes

pub accepted-encodes : (s : List ℕ) (day : Day) → Bytes s → judge_sheet s ≡ accepts day → s ≡ encode (fields_of s)
accepted-encodes s day b h = stood-bytes s b (accepted-stood s day h) ∙ rw (drop_of_length-le s {i = length s} (omega arith)) (append-nil _)

-- so accepted sheets with the same fields are the same sheet
pub accepted-once : (s t : List ℕ) (day other : Day) → Bytes s → Bytes t → judge_sheet s ≡ accepts day → judge_sheet t ≡ accepts other → fields_of s ≡ fields_of t → s ≡ t
accepted-once s t day other b c h g e = accepted-encodes s day b h ∙ ap encode e ∙ sym (accepted-encodes t other c g)

-- ---- from fields to an accepted sheet

-- where they stand up to the sheet's length, judging accepts
chain-judges : {s : List ℕ} {at : ℕ} {p : Progress} {fs : List Field} {day : Day} → Chain p fs day → Stood s at fs (length s) → judge_reads (length s) at p (reads_at s at) ≡ accepts day
unfolding judge_reads after at_end
chain-judges {s} {at} (last {p = p} e) (then d here) = ap (judge_reads (length s) at p) (reads-gave s at d) ∙ rw e (simp (eq-eqb (length s) (length s) refl))
chain-judges {s} {at} (more {p = p} e c) (then d t) = ap (judge_reads (length s) at p) (reads-gave s at d) ∙ rw e (chain-judges c t)

chain_held : {p : Progress} {fs : List Field} {day : Day} → Chain p fs day → Each Held fs
chain_held (last {p = p} {f = f} e) = (passed-held p f (ended p f e).0, tt)
chain_held (more {p = p} {q = q} {f = f} e c) = (passed-held p f (went p f q e).0, chain_held c)

-- a sheet that is nothing but fields that lead to a right end
stood-whole : (fs : List Field) → Each Held fs → Stood (encode fs) 0 fs (length (encode fs))
stood-whole fs h = rw (append-nil (encode fs)) at (bytes-stood [] fs [] h)

pub encoded-accepted : (fs : List Field) (day : Day) → Chain start fs day → length (encode fs) ≤ 1048576 → (judge_sheet (encode fs) ≡ accepts day) × (fields_of (encode fs) ≡ fs)
unfolding judge_sheet
encoded-accepted fs day c small =
    let t = stood-whole fs (chain_held c) in
    let nothing = fields-stop (encode fs) (length (encode fs)) (shape-past (encode fs) (length (encode fs)) (omega arith)) in
    (simp (le-leb (length (encode fs)) 1048576 small) (chain-judges c t), stood-fields t ∙ rw nothing (append-nil fs))
