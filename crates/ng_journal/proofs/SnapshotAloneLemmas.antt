-- An image that stands for a state by its snapshot alone, and the end of its log in format 2.
use Rattle.std.proofs.Common.{◌≡◌, ◌≢◌, ◌<◌, Ok, sym, ◌∙◌, ap, arith}
use Rattle.ng_rig.specs.Trace.{Image, Trace, reads}
use Rattle.ng_layout.specs.declared.header.Format.TheVariants.{Two}
use Rattle.ng_layout.specs.declared.header.Header.{Header}
use Rattle.ng_layout.specs.Fields.{number_at}
use Rattle.ng_layout.specs.Areas.{shortest_log, log_size, log_size_of, log_first}
use Rattle.ng_layout.specs.Stands.{standing, stands}
use Rattle.ng_layout.specs.Stored.{DurableState}
use Rattle.ng_layout.proofs.ImageLemmas.{stands-snapshot, stretch-at}
use Rattle.ng_log.specs.AtEnd.{no_records, EndsIn, IsAtEnd}
use Rattle.ng_journal.specs.Private.CheckpointSteps.{BeginsIn, IsBegun}

-- the first sector of its log has no part of its epoch
pub begins-empty : (image : Image) (header : Header) (at : DurableState) → BeginsIn image header at → number_at 8 0 (image log_first) ≢ header.epoch
begins-empty image header at b is = b.clean 0 (omega arith) is

pub begins-stand : (image : Image) (header : Header) (at : DurableState) → BeginsIn image header at → stands image ≡ Ok at
begins-stand image header at b =
    stands-snapshot image header b.force (begins-empty image header at b)
    ∙ (λ i. standing (sym b.program_limit i) (b.snapshot_is i) (b.program i) (sym b.long i))

pub begins-end : (image : Image) (header : Header) (at : DurableState) → header.format ≡ Two → BeginsIn image header at → EndsIn image header at no_records
begins-end image header at two b =
    let short : log_size_of header ≡ shortest_log = ap log_size two in
    record {
      force = b.force;
      format = two;
      written = b.written;
      ends = record {
        records = 0;
        reached = λ i. record { at = 0; number = 0; found = b.snapshot_is i };
        room = omega arith;
        clean = record {
          none = λ m ge lt is. let low : m < shortest_log =
              omega arith in b.clean m low
              (ap (number_at 8 0) (sym (stretch-at log_first (log_size_of header) image m lt)) ∙ is);
        };
      };
      program = b.program;
      long = b.long;
      program_limit = b.program_limit;
    }

pub begun-end : (trace : Trace) (header : Header) (at : DurableState) → header.format ≡ Two → IsBegun trace header at → IsAtEnd trace header at no_records
begun-end trace header at two b = record { synced = b.synced; image = begins-end (reads trace) header at two b.image }
