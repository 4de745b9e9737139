use Rattle.std.proofs.Common.{◌≡◌, ◌++◌, drop}
use Rattle.host_config.specs.Configs.{names_of}
use Rattle.host_config.proofs.config.list_names.Given as goal

abbrev pub invariant-loop-hosted : goal.invariant-loop-hosted
invariant-loop-hosted l = l.names.items ++ names_of (drop l.hosted-index l.nodes) ≡ names_of l.nodes
