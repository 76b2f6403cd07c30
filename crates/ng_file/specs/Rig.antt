-- A device in a file as its callers see it (own).
use Rattle.std.specs.Prelude.{ℕ, Bool, List, Option}
use Rattle.ng_rig.specs.Rig.{Device}
use Rattle.ng_file.specs.Promise.{Promise}
use Rattle.ng_file.specs.Sectors.{AreHonest, file_at, trace_of}
use Rattle.ng_file.specs.declared.rig.FileRig.{FileRig}

-- its number of sectors
abbrev pub sector_count : {S W A : Type 0} → FileRig S W A → ℕ
sector_count rig = rig.sectors.count

-- the failures that it counts
abbrev pub failure_count : {S W A : Type 0} → FileRig S W A → ℕ
failure_count rig = rig.failures

-- the file that holds its sectors
abbrev pub storage : {S W A : Type 0} → FileRig S W A → S
storage rig = rig.sectors.file

-- that file as it was at a moment of its trace; for a moment still to come, as it is
abbrev pub storage_at : {S W A : Type 0} → ℕ → FileRig S W A → S
storage_at t rig = file_at t rig.sectors

-- the writer that it hands out to
abbrev pub outlet : {S W A : Type 0} → FileRig S W A → W
outlet rig = rig.out

-- whether a hand-out has failed
abbrev pub is_cut : {S W A : Type 0} → FileRig S W A → Bool
is_cut rig = rig.cut

-- the device as contracts see it: honest where the file does what it promises, and all was durable at first
abbrev pub device_of : {S W A : Type 0} → (S → Option (List ℕ)) → (S → Promise) → FileRig S W A → Device
device_of content promise rig =
    record {
      trace = trace_of content rig.sectors;
      honest = AreHonest content promise rig.sectors;
      sectors =
          sector_count rig;
      failed = failure_count rig;
    }
