-- No two faults have the same number, and none has `fine`. So no two answers of a judge say the same, nor do two of the reader, nor two of the writer.
-- Assumes nothing.
use Rattle.std.specs.Prelude.{◌≡◌, refl, ℕ, cond, eqb, Result, Ok, Err}
use Rattle.std.proofs.Common.{ne_eqb}
use Rattle.promise.specs.laws.Once.{through}
use Rattle.field.specs.declared.Field.{Field}
use Rattle.field.specs.declared.Fault.{Fault}
use Rattle.field.specs.declared.Fault.TheVariants.{Long, Bytes, Tag, Length, Place, Metal, Instrument, Time, Price, Lots, Sides, Count, Room, Line, Barred, Form}
use Rattle.field.specs.declared.Refusal.{Refusal}
use Rattle.field.specs.Judging.{fine}
use Rattle.field.specs.Said.{Said, fault_number, found, read_says, written_says, gives, refuses}

-- ---- a fault, read off its number; no other number is asked for

abbrev pub fault_of : ℕ → Fault
fault_of number =
    cond (eqb number 1) Long
    (cond (eqb number 2) Bytes
    (cond (eqb number 3) Tag
    (cond (eqb number 4) Length
    (cond (eqb number 5) Place
    (cond (eqb number 6) Metal
    (cond (eqb number 7) Instrument
    (cond (eqb number 8) Time
    (cond (eqb number 9) Price
    (cond (eqb number 10) Lots
    (cond (eqb number 11) Sides
    (cond (eqb number 12) Count
    (cond (eqb number 16) Room
    (cond (eqb number 17) Line
    (cond (eqb number 18) Barred Form))))))))))))))

pub fault_back : (fault : Fault) → fault_of (fault_number fault) ≡ fault
fault_back Long = refl
fault_back Bytes = refl
fault_back Tag = refl
fault_back Length = refl
fault_back Place = refl
fault_back Metal = refl
fault_back Instrument = refl
fault_back Time = refl
fault_back Price = refl
fault_back Lots = refl
fault_back Sides = refl
fault_back Count = refl
fault_back Room = refl
fault_back Line = refl
fault_back Barred = refl
fault_back Form = refl

pub fault-once : {n : ℕ} {x y : Fault} → fault_number x ≡ n → fault_number y ≡ n → x ≡ y
fault-once p q = through fault_number fault_of fault_back p q

pub fault-not-fine : (fault : Fault) → fault_number fault ≡ fine → ⊥
fault-not-fine Long e = cc
fault-not-fine Bytes e = cc
fault-not-fine Tag e = cc
fault-not-fine Length e = cc
fault-not-fine Place e = cc
fault-not-fine Metal e = cc
fault-not-fine Instrument e = cc
fault-not-fine Time e = cc
fault-not-fine Price e = cc
fault-not-fine Lots e = cc
fault-not-fine Sides e = cc
fault-not-fine Count e = cc
fault-not-fine Room e = cc
fault-not-fine Line e = cc
fault-not-fine Barred e = cc
fault-not-fine Form e = cc

-- ---- an answer, read off what it says

abbrev found_of : ℕ → Result (Unit {0}) Fault
found_of number = cond (eqb number fine) (Ok tt) (Err (fault_of number))

found_back : (r : Result (Unit {0}) Fault) → found_of (found r) ≡ r
found_back (Ok done) = refl
found_back (Err fault) = simp (ne_eqb _ fine (fault-not-fine fault), fault_back fault)

abbrev read_of : Said Field → Result (Field × ℕ) Refusal
read_of (gives f next) = Ok (f, next)
read_of (refuses number at) = Err (record { fault = fault_of number; at = at })

read_back : (r : Result (Field × ℕ) Refusal) → read_of (read_says r) ≡ r
read_back (Ok (f, next)) = refl
read_back (Err refusal) = simp fault_back

abbrev written_of : Said (Unit {0}) → Result ℕ Refusal
written_of (gives given next) = Ok next
written_of (refuses number at) = Err (record { fault = fault_of number; at = at })

written_back : (r : Result ℕ Refusal) → written_of (written_says r) ≡ r
written_back (Ok next) = refl
written_back (Err refusal) = simp fault_back

pub found-once : {n : ℕ} {x y : Result (Unit {0}) Fault} → found x ≡ n → found y ≡ n → x ≡ y
found-once p q = through found found_of found_back p q

pub read-once : {d : Said Field} {x y : Result (Field × ℕ) Refusal} → read_says x ≡ d → read_says y ≡ d → x ≡ y
read-once p q = through read_says read_of read_back p q

pub written_once : {d : Said (Unit {0})} {x y : Result ℕ Refusal} → written_says x ≡ d → written_says y ≡ d → x ≡ y
written_once p q = through written_says written_of written_back p q
