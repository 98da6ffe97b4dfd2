-- `packet_info::routed_to` meets its contract: file data go to their handler, and a directive where its number says.
use Rattle.packet_info.specs.Routing.{route_of}
use Rattle.packet_info.proofs.routed_to.Goals as goal

pub returns-then-filedata : goal.returns-then-filedata
unfolding route_of
returns-then-filedata c = rw c.if-filedata.true

pub returns : goal.returns
returns c = rw c.if-filedata.false c.directive.ensures
