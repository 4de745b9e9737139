-- Which fault comes first.
use Rattle.std.proofs.Common.{◌≡◌, ℕ, ◌<◌, ◌≤◌, true, false, List, length, Some, None, refl, arith}
use Rattle.std.proofs.lemmas.Bool.{lt-ltb, le-ltb, ne_eqb, eq-eqb}
use Rattle.scp_types.specs.Trees.{all_differ}
use Rattle.scp_spec.specs.Networks.{HostedNode}
use Rattle.scp_spec.specs.Rosters.{Shares}
use Rattle.host_config.specs.Configs.{names_of}
use Rattle.host_config.specs.Faults.{first_fault, node_tests, roster_tests, is_too_large}
use Rattle.host_config.specs.declared.error.ConfigError.TheVariants.{NoNodes, TooManyNodes, RosterTooLong, ShareTooLarge}

-- ---- the tests of nodes
pub no-nodes : (nodes : List HostedNode) → all_differ (names_of nodes) ≡ true → length nodes ≡ 0 → first_fault (node_tests nodes) ≡ Some NoNodes
no-nodes nodes d l = rw (d, eq-eqb (length nodes) 0 l) refl

pub too-many-nodes : (nodes : List HostedNode) → all_differ (names_of nodes) ≡ true → 256 < length nodes → first_fault (node_tests nodes) ≡ Some TooManyNodes
too-many-nodes nodes d l = rw (d, ne_eqb (length nodes) 0 (λ e. omega (arith, l, e)), lt-ltb 256 (length nodes) l) refl

pub good-nodes : (nodes : List HostedNode) → all_differ (names_of nodes) ≡ true → 0 < length nodes → length nodes ≤ 256 → first_fault (node_tests nodes) ≡ None
good-nodes nodes d s l = rw (d, ne_eqb (length nodes) 0 (λ e. omega (arith, s, e)), le-ltb 256 (length nodes) l) refl

-- ---- the tests of a roster
pub roster-too-long : (names : List ℕ) (shares : Shares) → all_differ names ≡ true → 1024 < length names → first_fault (roster_tests names shares) ≡ Some RosterTooLong
roster-too-long names shares d l = rw (d, lt-ltb 1024 (length names) l) refl

pub share-too-large : (names : List ℕ) (shares : Shares) → all_differ names ≡ true → length names ≤ 1024 → is_too_large shares ≡ true → first_fault (roster_tests names shares) ≡ Some ShareTooLarge
share-too-large names shares d l s = rw (d, le-ltb 1024 (length names) l, s) refl

pub good-roster : (names : List ℕ) (shares : Shares) → all_differ names ≡ true → length names ≤ 1024 → is_too_large shares ≡ false → first_fault (roster_tests names shares) ≡ None
good-roster names shares d l s = rw (d, le-ltb 1024 (length names) l, s) refl
