-- `header::PduHeader::data_field` meets its contract: what is cut off at the end of the PDU has no bytes there.
use Rattle.laws.proofs.Stretches.{stretch_cut}
use Rattle.header.proofs.PduHeader.data_field.Goals as goal

pub returns : goal.returns
returns c = stretch_cut c.args.pdu.now c.args.self.headerend c.args.self.dataend c.min-end.ensures c.min-start.ensures
