-- A file as a list of sectors, and what was done with it (own).
use Rattle.std.specs.Prelude.{◌≡◌, ◌<◌, ◌≤◌, ◌+◌, ◌*◌, ℕ, Bool, false, List, [], ◌∷◌, Option, Some, None, if◌then◌else◌, get_or, length, nat_lt, nat_eq}
use lib.Pointwise.{pointwise}
use Rattle.ng_rig.specs.Trace.{Image, Trace, Began, Wrote, Perhaps, Synced, Handed, MayHold, reads, moment, trace_at}
use Rattle.ng_file.specs.Bytes.{sector_of}
use Rattle.ng_file.specs.Promise.{Promise, IsDurable}
use Rattle.ng_file.specs.declared.done.Done.{Done}
use Rattle.ng_file.specs.declared.done.Done.TheVariants.{Put, Sync, Hand}

pub record SectorsModel (S : Type 0) : Type 0 where
  pub file : S
  -- how many they are
  pub count : ℕ
  -- what was done
  pub done : List Done
  -- the file at first, and as each of these left it
  pub files : List S

-- what these bytes are in so many sectors; no sector past them has a content
abbrev pub image_of : ℕ → Option (List ℕ) → Image
image_of count None n = []
image_of count (Some held) n = if nat_lt n count then sector_of n held else []

-- whether a read of the sector returns these bytes
abbrev pub holds : ℕ → List ℕ → Option (List ℕ) → Bool
holds n bytes None = false
holds n bytes (Some held) = pointwise nat_eq bytes (sector_of n held)

module _ {S : Type 0} (content : S → Option (List ℕ)) where
  -- the trace with what was done, which left this file: a write that failed counts as done where a read returns its bytes
  abbrev pub trace_with : Done → S → Trace → Trace
  trace_with (Put n bytes) file trace = if holds n bytes (content file) then Wrote n bytes trace else Perhaps n bytes trace
  trace_with Sync file trace = Synced trace
  trace_with (Hand item) file trace = Handed item trace

  -- the same of a list, with the file that each left
  abbrev pub trace_from : Trace → List Done → List S → Trace
  trace_from trace [] files = trace
  trace_from trace (done ∷ more) [] = trace
  trace_from trace (done ∷ more) (file ∷ files) = trace_from (trace_with done file trace) more files

  -- the same from the first of these files on
  abbrev pub trace_since : ℕ → List Done → List S → Trace
  trace_since count done [] = Began (λ n. [])
  trace_since count done (first ∷ files) = trace_from (Began (image_of count (content first))) done files

  -- what was done with these sectors
  abbrev pub trace_of : SectorsModel S → Trace
  trace_of s = trace_since s.count s.done s.files

-- the file at first
abbrev pub begun : {S : Type 0} → SectorsModel S → S
begun s = get_or s.files 0 s.file

-- the file as it was at a moment of the trace; for a moment still to come, as it is
abbrev pub file_at : {S : Type 0} → ℕ → SectorsModel S → S
file_at t s = get_or s.files t s.file

-- The file's bytes are known. The trace reads as they do, and each stop that the file allows is one of the trace.
pub record IsFaithful (count : ℕ) (bytes : Option (List ℕ)) (promise : Promise) (trace : Trace) : Type 0 where
  pub held : List ℕ
  pub known : bytes ≡ Some held
  pub fits : 512 * count ≤ length held
  pub reads_are : reads trace ≡ image_of count bytes
  pub stops : (n : ℕ) (c : List ℕ) → n < count → promise.may_hold n c → MayHold trace n c
  pub past : (n : ℕ) → count ≤ n → MayHold trace n []

-- These were the file, one at each moment of the trace. Each stop that it allowed then is one of the trace at that moment.
pub record HaveStops {S : Type 0} (count : ℕ) (promise : S → Promise) (files : List S) (trace : Trace) : Type 0 where
  pub clock : length files ≡ moment trace + 1
  pub stops : (t : ℕ) (other : S) → t < length files → (n : ℕ) (c : List ℕ) → n < count
      → (promise (get_or files t other)).may_hold n c → MayHold (trace_at t trace) n c
  pub past : (t n : ℕ) → count ≤ n → MayHold (trace_at t trace) n []

module _ {S : Type 0} (content : S → Option (List ℕ)) (promise : S → Promise) where
  -- the file does what it promises, and all was durable when the sectors were made of it
  abbrev pub DoAsPromised : SectorsModel S → Type 0
  DoAsPromised s = (promise s.file).honest × IsDurable (content (begun s)) (promise (begun s))

  -- the trace says what a read returns, and what a loss of power leaves, now and at each moment before
  abbrev pub AreTraced : SectorsModel S → Type 0
  AreTraced s = IsFaithful s.count (content s.file) (promise s.file) (trace_of content s) × HaveStops s.count promise s.files (trace_of content s)

  abbrev pub AreFaithful : SectorsModel S → Type 0
  AreFaithful s = DoAsPromised s → AreTraced s

  -- both
  abbrev pub AreHonest : SectorsModel S → Type 0
  AreHonest s = DoAsPromised s × AreTraced s

  -- a call keeps their honesty in both directions
  abbrev pub KeepsHonest : SectorsModel S → SectorsModel S → Type 0
  KeepsHonest old new = (AreHonest old → AreHonest new) × (AreHonest new → AreHonest old)
