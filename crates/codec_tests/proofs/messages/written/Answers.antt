use Rattle.std.proofs.Common.{arith}
use Rattle.map_messages.specs.Message.{left_over}
use Rattle.map_messages.proofs.LengthLaws.{canonical_le}
use Rattle.map_messages.proofs.MessageLaws.{message_is_spelled}
use Rattle.codec_tests.proofs.messages.written.Goals as goal

pub write_message-requires-clause-short : goal.write_message-requires-clause-short
write_message-requires-clause-short c =
    let octets = c.args.octets.now in
    let message = c.in-Ok.message in
    let spelled = message_is_spelled 0 octets message c.in-Ok.ensures.refused c.in-Ok.ensures.value in
    omega (arith, c.requires, canonical_le octets message (left_over octets) spelled)
