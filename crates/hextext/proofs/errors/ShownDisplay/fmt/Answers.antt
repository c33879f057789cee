use Rattle.std.proofs.Common.{◌≡◌, true, false, Some, codes, subst, arith}
use Rattle.std.proofs.lemmas.Bool.Decides.{nat_tests}
use Rattle.std.proofs.lemmas.Fmt.{hex_byte}
use Rattle.std.specs.Fmt.{DisplaysOnOk, ◌++?◌, styled_digits_output}
use Rattle.hextext.specs.Text.{between}
use Rattle.hextext.specs.Sentences.{byte_shown}
use Rattle.hextext.proofs.errors.ShownDisplay.fmt.Goals as goal

pub returns-else-contains-clause-writes : goal.returns-else-contains-clause-writes
returns-else-contains-clause-writes g c =
    let b = c.args.self.now.0 in
    let out : between 32 126 b ≡ false = grind (arith, nat_tests) in
    let text : Some (codes "byte 0x") ++? styled_digits_output c.in_radix.result c.laid_out.result ≡ Some (byte_shown b) =
    rw (c.laid_out.ensures, c.in_radix.ensures, hex_byte true b (omega arith), out) in
    subst (λ o. DisplaysOnOk g.W.Write.write_str_gives c.args.f.now c.write-else-contains.result o c.write-else-contains.new.self) text c.write-else-contains.ensures.writes
