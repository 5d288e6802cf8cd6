use Rattle.desk.proofs.HostLemmas.{given-set}
use Rattle.desk.proofs.host.write_host.Goals as goal

pub returns-in-Some : goal.returns-in-Some
returns-in-Some g c =
    record { given = given-set 0 c.args.files.now.items c.args.number c.in-Some.file.now c.write.new.self c.in-Some.ensures.value c.write.ensures.kind }
