-- What is read of a snapshot.
use Rattle.std.specs.Prelude.{◌≡◌, ℕ, Bool, List, ℤ, Some, None, MatchBool}
use Rattle.ng_rig.specs.Trace.{Image}
use Rattle.ng_params.specs.Numbers.{parameter_count}
use Rattle.ng_layout.specs.Sectors.{values}
use Rattle.ng_layout.specs.Snapshot.{decoded_state_in}
use Rattle.ng_layout.specs.Areas.{snapshot_first, snapshot_size, tools_first, tools_size}
use Rattle.ng_layout.specs.Tools.{tools_in}
use Rattle.ng_layout.specs.declared.header.Header.{Header}
use Rattle.ng_layout.specs.Stands.{all_counts, snapshot, stretch}
use Rattle.ng_layout.specs.Stored.{StoredModel}

-- the table is that of the area's parameters, or one of these is out of range
abbrev pub IsTableOf : ℕ → List ℤ → Image → Bool → Type 0
IsTableOf first table image is_whole =
    let row = stretch first snapshot_size image in
    MatchBool is_whole ((table ≡ values parameter_count row)
    × (all_counts (values parameter_count row) ≡ Some (values parameter_count row)))
    (all_counts (values parameter_count row) ≡ None)

-- what is stored is what the snapshot says, or the snapshot is damaged
abbrev pub IsSnapshotOf : Header → StoredModel → Image → Bool → Type 0
IsSnapshotOf header saved image is_whole =
    let found = snapshot header.format header.length (stretch (snapshot_first header.epoch) snapshot_size image)
    (stretch (tools_first header.epoch) tools_size image) in
    MatchBool is_whole ((found ≡ Some
    (record { decoded = decoded_state_in saved; params = saved.setup.params; tools = saved.tools }))
    × (saved.length ≡ header.length)) (found ≡ None)

-- the table is that of the tool area of a header, given the first sector of its snapshot, or the area is damaged
abbrev pub IsToolsOf : Header → List ℕ → List ℤ → Image → Bool → Type 0
IsToolsOf header first tools image is_whole =
    let found = tools_in header.format first (stretch (tools_first header.epoch) tools_size image) in
    MatchBool is_whole (found ≡ Some tools) (found ≡ None)
