use Rattle.c_scanner.proofs.Places.{one_more}
use Rattle.c_scanner.proofs.scanning.put.Goals as goal

pub returns-clause-put : goal.returns-clause-put
returns-clause-put c =
    let a = c.in_ok-push.ensures.items in
    let b = c.in_ok-push-2.ensures.items in
    rw (a, b) (one_more c.args.tokens.now.items c.args.places.now.items c.args.token c.args.place c.requires)
