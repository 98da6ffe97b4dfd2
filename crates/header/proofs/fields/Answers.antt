-- `header::fields` meets its contract: each field is what its callee ensures.
use native.Mathlib.Omega.{arith}
use Rattle.header.specs.Header.{fields_of}
use Rattle.header.proofs.Laws.{whole}
use Rattle.header.proofs.fields.Goals as goal

pub bounds-s-0 : goal.bounds-s-0
bounds-s-0 c = omega (arith, (whole _ c.requires).long)

pub bounds-s-3 : goal.bounds-s-3
bounds-s-3 c = omega (arith, (whole _ c.requires).long)

pub header_end-requires : goal.header_end-requires
header_end-requires c = (whole _ c.requires).long

pub data_end-requires : goal.data_end-requires
data_end-requires c = (whole _ c.requires).long

pub returns : goal.returns
unfolding fields_of
returns c = rw (c.conf.ensures, c.header_end.ensures.value, c.data_end.ensures)
