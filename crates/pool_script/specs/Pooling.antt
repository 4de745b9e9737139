-- What becomes of a script whose events are jobs of workers.
use Rattle.std.specs.Prelude.{◌≡◌, ◌+◌, ◌++◌, ℕ, List, [], ◌∷◌, length, map}
use Rattle.std.specs.List.{AllZip}
use Rattle.scp_types.specs.declared.event.Event.{Event}
use Rattle.scp_types.specs.declared.event.Event.TheVariants.{OpenSlot}
use Rattle.scp_spec.specs.Hosts.{Config}
use Rattle.scp_spec.specs.Runs.{IsRun as Replays}
use Rattle.line_script.specs.Script.{Bytes}
use Rattle.host_journal.specs.Logs.{Log}
use Rattle.pool_queue.specs.Hands.{weigh}
use Rattle.pool_queue.specs.declared.rule.Job.{Job}
use Rattle.pool_cell.specs.Sights.{SeatSight}
use Rattle.pool_workers.specs.NetSights.{NetSight}
use Rattle.pool_workers.specs.Alone.{IsRunAlone}
use Rattle.pool_workers.specs.Nets.{IsClosedNet}
use Rattle.pool_workers.specs.declared.running.Report.{Report}
use Rattle.pool_script.specs.Opening.{IsReadyNetwork}
use Rattle.pool_script.specs.Dealing.{AreNetworkShares, calls_elsewhere}
use Rattle.pool_script.specs.PoolLines.{AreAllDecidedLines, length_lines, report_line}
use Rattle.pool_script.specs.declared.dealing.Share.{Share}

-- the event as a job of its network
abbrev pub job_of : ℕ × Event → Job
job_of call = record { network = call.0; event = call.1 }

-- the slots that events open, in order
abbrev pub slots_opened : List (ℕ × Event) → List ℕ
slots_opened [] = []
slots_opened ((g, OpenSlot slot) ∷ calls) = slot ∷ slots_opened calls
slots_opened (call ∷ calls) = slots_opened calls

-- all other events as jobs, in order
abbrev pub jobs_of : List (ℕ × Event) → List Job
jobs_of [] = []
jobs_of ((g, OpenSlot slot) ∷ calls) = jobs_of calls
jobs_of (call ∷ calls) = job_of call ∷ jobs_of calls

-- A network of this configuration opened the slots that it is asked to open, and its other events were done as jobs by
-- its one seat. Then it was closed. Its journal is one history of the seat, and a run.
pub record IsWorkedOff (config : Config) (calls : List (ℕ × Event)) (log : Log) (report : Report) : Type 0 where
  pub net : NetSight
  pub opened : IsReadyNetwork config (slots_opened calls) net
  pub seats : List SeatSight
  pub run : IsRunAlone net.cell net.seats seats (jobs_of calls) report
  pub ended : List SeatSight
  pub closed : IsClosedNet (record net { seats = seats }) log ended
  pub replays : Replays log.config log.entries

-- what is printed of networks: what the nodes of each have externalized, then the length of each journal, then the
-- counts of jobs
pub record IsTextOfLogs (logs : List Log) (applied refused unrun : ℕ) (text : Bytes) : Type 0 where
  pub decided : Bytes
  pub lines : AreAllDecidedLines logs decided
  pub parts : text ≡ (decided ++ length_lines logs) ++ report_line applied refused unrun

-- what a worker made of a network: its journal, and how its jobs ended
pub record NetworkEnd : Type 0 where
  pub log : Log
  pub report : Report

-- The networks of these configurations were worked off, each with its own events. What became of them is written,
-- ascending by number. A job of a network that is not declared counts as refused.
pub record IsPoolText (configs : List Config) (calls : List (ℕ × Event)) (text : Bytes) : Type 0 where
  pub shares : List Share
  pub dealt : AreNetworkShares configs calls shares
  pub ends : List NetworkEnd
  pub worked : AllZip (λ s (e : NetworkEnd). IsWorkedOff s.config s.calls.items e.log e.report) shares ends
  pub written : IsTextOfLogs (map (λ (e : NetworkEnd). e.log) ends) (weigh (λ (e : NetworkEnd). e.report.applied) ends)
      (weigh (λ (e : NetworkEnd). e.report.refused) ends + length (jobs_of (calls_elsewhere configs calls)))
      (weigh (λ (e : NetworkEnd). e.report.unrun) ends) text
