use Rattle.std.proofs.Common.{refl}
use Rattle.std.proofs.Math.Nat.{div-one}
use Rattle.router_log.proofs.numbers.hex_digits.Goals as goal

pub returns : goal.returns
unfolding Rattle.router_log.specs.Numbers.hex_16
returns c =
    rw (c.hex_digit.ensures, c.hex_digit-2.ensures, c.hex_digit-3.ensures, c.hex_digit-4.ensures, c.hex_digit-5.ensures, c.hex_digit-6.ensures, c.hex_digit-7.ensures, c.hex_digit-8.ensures, c.hex_digit-9.ensures, c.hex_digit-10.ensures, c.hex_digit-11.ensures, c.hex_digit-12.ensures, c.hex_digit-13.ensures, c.hex_digit-14.ensures, c.hex_digit-15.ensures, c.hex_digit-16.ensures, div-one c.args.number) refl
