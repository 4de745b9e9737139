use Rattle.std.proofs.Common.{rules, map, refl}
use Rattle.line_request.proofs.RosterLaws.{asks_roster}
use Rattle.line_request.proofs.request.roster_of.Goals as goal

pub returns-in-Some-2 : goal.returns-in-Some-2
returns-in-Some-2 c =
    asks_roster (map (λ field. field.now) c.args.fields.now) (c.in-Some.shares, map (λ field. field.now) c.in-Some.rest.now) c.in-Some-2.names.items
    (record { names = c.in-Some-2.names; shares = c.in-Some.shares }) _ (search rules) (search rules) refl refl (search rules)
