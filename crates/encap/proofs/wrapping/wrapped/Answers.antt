use Rattle.encap.proofs.wrapping.wrapped.Goals as goal

pub returns : goal.returns
returns c =
    rw (c.in_ok-append_both.ensures.ok, c.in_ok-packet.ensures, c.split_at.ensures.back, c.split_at-2.ensures.back) c.write_front-place.ensures.written
