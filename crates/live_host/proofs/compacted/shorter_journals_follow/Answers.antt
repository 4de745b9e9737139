use Rattle.live_host.proofs.CompactedEnd.{declarations_may_be_lowered}
use Rattle.live_host.proofs.CompactedErased.{refused_lines_stay_alike, slots_may_be_erased}
use Rattle.live_host.proofs.CompactedFiles.{files-from}
use Rattle.live_host.proofs.CompactedLaw.{shorter-from}
use Rattle.live_host.proofs.CompactedNaming.{naming_lines_begin}
use Rattle.live_host.proofs.CompactedSmall.{declarations_are_small}
use Rattle.live_host.proofs.compacted.shorter_journals_follow.Goals as goal

pub returns : goal.returns
returns c = record {
  small = declarations_are_small;
  lowered = declarations_may_be_lowered;
  erased = slots_may_be_erased;
  refused = refused_lines_stay_alike;
  naming = naming_lines_begin;
  law = shorter-from declarations_are_small naming_lines_begin;
  files = files-from (shorter-from declarations_are_small naming_lines_begin);
}
