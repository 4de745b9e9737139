-- What a worker makes of a network, and what is told of all.
use Rattle.std.specs.Prelude.{◌≡◌, ◌+◌, ◌++◌, ℕ, List, IfSome, Some, length, string_bytes}
use Rattle.std.specs.List.{AllZip, flat_map}
use Rattle.scp_types.specs.declared.event.Event.{Event}
use Rattle.scp_spec.specs.Hosts.{Config}
use Rattle.line_script.specs.Script.{Bytes}
use Rattle.host_journal.specs.Logs.{Log}
use Rattle.pool_queue.specs.Hands.{weigh}
use Rattle.pool_script.specs.PoolLines.{AreDecidedLines, length_line, report_line}
use Rattle.pool_script.specs.Pooling.{IsWorkedOff}
use Rattle.pool_script.specs.declared.dealing.Share.{Share}
use Rattle.pool_script.specs.declared.errand.Errand.{Errand}
use Rattle.pool_script.specs.declared.running.Told.{Told}

-- a network was worked off, and this is told of it
pub record IsNetworkTold (config : Config) (calls : List (ℕ × Event)) (t : Told) : Type 0 where
  pub log : Log
  pub worked : IsWorkedOff config calls log t.report
  pub decided : AreDecidedLines log (string_bytes t.decided)
  pub long : string_bytes t.length ≡ length_line log.config.number (length log.entries)

-- what is told after an errand, if anything, is of the network that it had
abbrev pub HasWorkedOff : {R : Type 0} → Errand R → Errand R → Type 0
HasWorkedOff old new = IfSome old.share (λ s. IfSome new.told (IsNetworkTold s.config s.calls.items))

-- an errand for each network
abbrev pub HaveErrands : {R : Type 0} → List Share → List (Errand R) → Type 0
HaveErrands shares errands = AllZip (λ (s : Share) (e : Errand _). e.share ≡ Some s) shares errands

-- All errands have told something. It stands there in their order, with the sums of what they report.
pub record IsTextOfErrands {R : Type 0} (errands : List (Errand R)) (lacking : ℕ) (text : Bytes) : Type 0 where
  pub tolds : List Told
  pub told : AllZip (λ (e : Errand R) t. e.told ≡ Some t) errands tolds
  pub parts : text ≡
      (flat_map (λ (t : Told). string_bytes t.decided) tolds ++ flat_map (λ (t : Told). string_bytes t.length) tolds)
      ++ report_line (weigh (λ (t : Told). t.report.applied) tolds) (weigh (λ (t : Told). t.report.refused) tolds + lacking)
      (weigh (λ (t : Told). t.report.unrun) tolds)
