use Rattle.std.proofs.Common.{◌≡◌, ◌+◌, drop, option_map}
use Rattle.host_config.specs.Configs.{index_in}
use Rattle.host_config.proofs.config.place_in_few.Given as goal

abbrev pub invariant-loop-place : goal.invariant-loop-place
invariant-loop-place l = option_map (λ i. l.place + i) (index_in (drop l.place l.names) l.name) ≡ index_in l.names l.name
