-- What a desk in memory has done, as acts.
use Rattle.std.specs.Prelude.{List, map}
use Rattle.live_feed.specs.Acts.{Act}
use Rattle.live_feed.specs.Acts.Act.{Synced, Told, Wrote}
use Rattle.tests_values.specs.declared.deeds.Deed.{Deed}
use Rattle.tests_values.specs.declared.deeds.Deed.TheVariants as deed

abbrev pub act_of : Deed → Act
act_of (deed.Wrote bytes) = Wrote bytes.items
act_of deed.Synced = Synced
act_of (deed.Told bytes) = Told bytes.items

-- what a test's file was told to do, as acts
abbrev pub acts_of : List Deed → List Act
acts_of deeds = map act_of deeds
