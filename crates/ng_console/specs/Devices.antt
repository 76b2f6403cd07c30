-- The device in a file (own).
use Rattle.std.specs.Prelude.{ℕ, ◌≡◌, ◌/◌, List, Option, IfSome, length}
use Rattle.ng_rig.specs.Trace.{Began}
use Rattle.ng_file.specs.Rig.{failure_count, outlet, sector_count, storage}
use Rattle.ng_file.specs.Promise.{Promise, IsDurable}
use Rattle.ng_file.specs.Sectors.{AreHonest, image_of, trace_of}
use Rattle.ng_file.specs.declared.rig.FileRig.{FileRig}

-- The device is the one in these bytes: its sectors are their whole sectors, and nothing was done with them. It is honest
-- where the file does what it promises, and all is durable. It hands out to this file.
pub record IsOver {S O A : Type 0} (content : S → Option (List ℕ)) (promise : S → Promise) (device : S) (out : O) (rig : FileRig S O A) : Type 0 where
  pub bytes : content (storage rig) ≡ content device
  pub sectors : IfSome (content device) (λ held. sector_count rig ≡ length held / 512)
  pub hands_out : outlet rig ≡ out
  pub failures : failure_count rig ≡ 0
  pub begins : trace_of content rig.sectors ≡ Began (image_of (sector_count rig) (content device))
  pub honest : (promise device).honest → IsDurable (content device) (promise device) → AreHonest content promise rig.sectors
