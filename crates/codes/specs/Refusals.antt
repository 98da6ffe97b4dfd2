-- Document 01's numbers of refusals, and what an answer says by them.
use Rattle.std.specs.Prelude.{ℕ, List, codes, cond, eqb, Result, Ok, Err}
use Rattle.codes.specs.declared.Refusal.{Refusal}
use Rattle.codes.specs.declared.Refusal.TheVariants.{StoreUnfit, OutTooShort, NotWhole, OtherVersion, OtherWidth, WithCrc, UnknownDirective, ForSender, ForAnotherEntity, NotSupported, Busy, WrongStep, AnotherTransfer, Malformed, UnknownSource, NoSourceName, NoDestName, NotUtf8, DoesNotFit, ProgressAtEnd, Broken}

-- the number of each
abbrev pub number : Refusal → ℕ
number StoreUnfit = 1
number OutTooShort = 2
number NotWhole = 3
number OtherVersion = 4
number OtherWidth = 5
number WithCrc = 6
number UnknownDirective = 7
number ForSender = 8
number ForAnotherEntity = 9
number NotSupported = 10
number Busy = 11
number WrongStep = 12
number AnotherTransfer = 13
number Malformed = 14
number UnknownSource = 15
number NoSourceName = 16
number NoDestName = 17
number NotUtf8 = 18
number DoesNotFit = 19
number ProgressAtEnd = 20
number Broken = 21

-- the sentence that says what each means, as it is printed
abbrev pub sentence : Refusal → List ℕ
sentence StoreUnfit = codes "the store is longer than its limit, or shorter than the file"
sentence OutTooShort = codes "the out buffer is too short"
sentence NotWhole = codes "the PDU is not whole"
sentence OtherVersion = codes "the version is not 1"
sentence OtherWidth = codes "a width is not 1, 2, 4 or 8"
sentence WithCrc = codes "a CRC is not supported"
sentence UnknownDirective = codes "the directive is not known"
sentence ForSender = codes "the PDU is for a sender"
sentence ForAnotherEntity = codes "the PDU is for another entity"
sentence NotSupported = codes "what it asks for is not supported"
sentence Busy = codes "a transfer runs already"
sentence WrongStep = codes "the transfer is not in a step that takes it"
sentence AnotherTransfer = codes "the PDU is another transfer's"
sentence Malformed = codes "the PDU's body is malformed"
sentence UnknownSource = codes "the source is not a known remote entity"
sentence NoSourceName = codes "the source name is empty"
sentence NoDestName = codes "the destination name is empty"
sentence NotUtf8 = codes "a name is not UTF-8"
sentence DoesNotFit = codes "the segment does not fit the store"
sentence ProgressAtEnd = codes "progress would pass its limit"
sentence Broken = codes "the configuration or the state is broken"

-- what a call or a reader answers, in 01's terms: what it found, or the number of the refusal
pub data Answer (A : Type 0) : Type 0 where
  Good : A → Answer A
  Refused : ℕ → Answer A

-- what is found where no refusal is told, which is the number 0; else the refusal
abbrev pub unless : {A : Type 0} → ℕ → A → Answer A
unless n x = cond (eqb n 0) (Good x) (Refused n)

-- the code's answer in those terms
abbrev pub answered : {A : Type 0} → Result A Refusal → Answer A
answered (Ok x) = Good x
answered (Err r) = Refused (number r)

-- the number that an answer tells, 0 where it is not a refusal
abbrev pub told : {A : Type 0} → Answer A → ℕ
told (Good x) = 0
told (Refused n) = n

-- the number that the code's answer tells
abbrev pub refusal_of : {A : Type 0} → Result A Refusal → ℕ
refusal_of (Ok x) = 0
refusal_of (Err r) = number r
