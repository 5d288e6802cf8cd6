-- What the definitions say of the captures that are written.
use Rattle.std.proofs.Common.{◌≡◌, None, refl}
use Rattle.octets.specs.Rules.{first_failing}
use Rattle.capture_io.specs.Capture.{header_rules, format_of}
use Rattle.capture_io.specs.Output.{out_header}
use Rattle.capture_io.specs.declared.order.Order.TheVariants.{Little}
use Rattle.capture_io.specs.declared.format.Fraction.TheVariants.{Nanoseconds}
use Rattle.capture_io.specs.declared.link.Link.TheVariants.{Raw}

-- the header that is written is read again
out_header-is_read : first_failing (header_rules out_header) ≡ None
out_header-is_read = refl

-- as little-endian, with nanoseconds and raw packets
format_of-out_header : format_of out_header ≡ record { order = Little; fraction = Nanoseconds; link = Raw }
format_of-out_header = refl
