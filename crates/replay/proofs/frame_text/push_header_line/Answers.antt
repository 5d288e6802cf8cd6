use Rattle.std.proofs.Common.{arith, ◌≡◌, ◌∙◌, ◌-◌, ◌≤◌, length, drop}
use Rattle.std.proofs.lemmas.List.{length-drop, take_all}
use Rattle.replay.proofs.frame_text.push_header_line.Goals as goal

pub returns : goal.returns
returns c =
    let from = c.write_octets-from.result in
    let text = c.write_octets-from.new.text in
    let size : length text ≡ 55 =
    c.write_octets-from.auto.text ∙ c.write_hex_octets-end.auto.text ∙ c.write_named-end.auto.text ∙ c.write_octet-end.auto.text in
    let fits : length (drop from text) ≤ 55 - from = omega (arith, size, length-drop from text) in
    rw (take_all (55 - from) (drop from text) fits, c.write_octets-from.ensures.written, c.write_hex_octets-end.ensures.written, c.write_named-end.ensures.written, c.write_octet-end.ensures.written) at c.append.ensures.ok
