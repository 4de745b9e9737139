use Rattle.std.proofs.Common.{◌≡◌, ◌∷◌, drop}
use Rattle.host_config.specs.Configs.{names_of, rises}
use Rattle.host_config.proofs.config.is_ascending.Given as goal

abbrev pub invariant-loop-hosted : goal.invariant-loop-hosted
invariant-loop-hosted l = rises (l.last ∷ names_of (drop l.hosted-index l.rest)) ≡ rises (names_of l.nodes)
