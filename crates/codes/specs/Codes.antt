-- The codes of CCSDS 727.0-B-5 that the receiver goes by, under the names of the Rust's ConditionCode, FaultHandlerCode and ChecksumType.
use Rattle.std.specs.Prelude.{ℕ, Bool, leb}

-- conditions: no error
abbrev pub no_error : ℕ
no_error = 0

-- those with a handler are 1 to 8, 10 and 11: the first and the last of the row of eight
abbrev pub positive_ack_limit_reached : ℕ
positive_ack_limit_reached = 1

abbrev pub inactivity_detected : ℕ
inactivity_detected = 8

-- and those that a transfer meets
abbrev pub filestore_rejection : ℕ
filestore_rejection = 4

abbrev pub file_checksum_failure : ℕ
file_checksum_failure = 5

abbrev pub file_size_error : ℕ
file_size_error = 6

abbrev pub check_limit_reached : ℕ
check_limit_reached = 10

abbrev pub unsupported_checksum_type : ℕ
unsupported_checksum_type = 11

-- handlers: cancel, ignore, abandon
abbrev pub notice_of_cancellation : ℕ
notice_of_cancellation = 1

abbrev pub ignore_error : ℕ
ignore_error = 3

abbrev pub abandon_transaction : ℕ
abandon_transaction = 4

-- checksum types: the modular sum, and none
abbrev pub modular : ℕ
modular = 0

abbrev pub null_checksum : ℕ
null_checksum = 15

-- a condition and a checksum type take four bits each: the largest, and whether a number is within them
abbrev pub last_code : ℕ
last_code = 15

abbrev pub is_code : ℕ → Bool
is_code n = leb n last_code
