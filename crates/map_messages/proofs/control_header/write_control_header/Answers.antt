use Rattle.map_messages.specs.Control.{control_header}
use Rattle.map_messages.proofs.control_header.write_control_header.Goals as goal

pub returns-in-V4-V4 : goal.returns-in-V4-V4
unfolding control_header
returns-in-V4-V4 c = rw (c.in-V4-V4.is-0, c.in-V4-V4.is-1) (rw c.control_v4.ensures at c.write_v4.ensures.ok)
