use Rattle.live_network.proofs.stepping.deliver.Goals as goal

pub returns-clause-stepped : goal.returns-clause-stepped
returns-clause-stepped g c =
    let applied = c.in_ok-given.ensures.applied in
    record { step = applied.step; marks = applied.marks; place = c.place_of-place.ensures c.args.size; stale = c.is_old-stale.ensures c.args.size }
