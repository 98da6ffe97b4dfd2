-- What is looked at before the PDU, in 01's order: 21, 1, 2.
use Rattle.std.specs.Prelude.{ℕ, max, Bool, false, cond, not, ◌&&◌, ◌||◌, List, [], ◌∷◌, Option, Some, None, ltb, leb, eqb}
use Rattle.laws.specs.First.{first_of}
use Rattle.codes.specs.Codes.{is_code}
use Rattle.finished.specs.Finished.{out_size}
use Rattle.filestore.specs.File.{store_limit}
use Rattle.config.specs.Config.{fits_width, config_broken, entries_of, find_in}
use Rattle.config.specs.declared.RemoteEntityConfig.{RemoteEntityConfig}
use Rattle.header.specs.declared.CommonPduConfig.{CommonPduConfig}
use Rattle.transfer.specs.declared.TransferState.{TransferState}
use Rattle.state.specs.State.{name_size, busy}
use Rattle.state.specs.declared.State.{State}

-- whether the ids and the sequence number of a header fit their widths
unfoldable pub conf_fits : CommonPduConfig → Bool
conf_fits c = fits_width c.idwidth c.source && (fits_width c.seqwidth c.seqnum && fits_width c.idwidth c.dest)

-- whether the checksum type and the condition take four bits each
abbrev pub codes_fit : ℕ → ℕ → Bool
codes_fit checksumtype condition = is_code checksumtype && is_code condition

-- whether each value of a transfer's record fits its width
unfoldable pub record_fits : TransferState → Bool
record_fits t = conf_fits t.conf && codes_fit t.checksumtype t.finish.condition

-- a name of 1 to 255 bytes
abbrev pub name_fits : ℕ → Bool
name_fits n = leb 1 n && leb n name_size

-- whether the count is below max(1, limit) of the source's entry; there is none where the source has no entry
abbrev pub count_below : ℕ → Option RemoteEntityConfig → Bool
count_below count (Some e) = ltb count (max 1 e.limit)
count_below count None = false

unfoldable pub count_fits : List RemoteEntityConfig → ℕ → ℕ → Bool
count_fits remotes source count = count_below count (find_in remotes source)

-- a busy state has both names, and its source has an entry whose limit the count is below; an idle state has no name
unfoldable pub names_fit : Bool → ℕ → ℕ → Bool
names_fit running source dest = cond running (name_fits source && name_fits dest) (eqb source 0 && eqb dest 0)

unfoldable pub count_broken : State → Bool
count_broken s =
    busy s
    && not (count_fits (entries_of s.config.table s.config.entries) s.transfer.conf.source s.transfer.check.count)

-- 21: the configuration is broken, the file is longer than a store may be, a value of the record is above its width, a name breaks its size,
-- or a busy state has no entry for its source or a count not below max(1, limit)
unfoldable pub state_broken : State → Bool
state_broken s =
    config_broken s.config
    || (ltb store_limit s.transfer.file.length || (not (record_fits s.transfer) || (not (names_fit (busy s) s.source.len s.dest.len) || count_broken s)))

-- 1: the store is above its limit, or in a busy state shorter than the file
unfoldable pub store_unfit : State → ℕ → Bool
store_unfit s size = ltb store_limit size || (busy s && ltb size s.transfer.file.length)

-- 21, 1, 2 (the out buffer is below its least size)
unfoldable pub unfit_order : State → ℕ → ℕ → List (ℕ × Bool)
unfit_order s size out = (21, state_broken s) ∷ (1, store_unfit s size) ∷ (2, ltb out out_size) ∷ []

unfoldable pub unfit_refusal : State → ℕ → ℕ → ℕ
unfit_refusal s size out = first_of (unfit_order s size out)
