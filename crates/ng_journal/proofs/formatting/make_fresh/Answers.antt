use Rattle.std.proofs.Common.{pos, refl, arith, rules}
use Rattle.std.proofs.lemmas.Result.{err_from_is_err_and}
use Rattle.ng_rig.specs.Trace.{reads}
use Rattle.ng_layout.specs.Header.{program_limit_of}
use Rattle.ng_layout.specs.Stands.{is_large}
use Rattle.ng_layout.specs.Stored.{fresh_stored}
use Rattle.ng_journal.proofs.FormatLemmas.{steps, finished, table_long}
use Rattle.ng_journal.proofs.WrittenSectorLemmas.{first_headers, first_log, first_area, first_tools, first_sync, first_write}
use Rattle.ng_journal.proofs.formatting.make_fresh.Goals as goal

pub returns-in_err-clear_headers-clause-formats : goal.returns-in_err-clear_headers-clause-formats
returns-in_err-clear_headers-clause-formats g c =
    let p = err_from_is_err_and c.from_residual.result c.from_residual.ensures.1 in
    let fresh = fresh_stored (program_limit_of (is_large (reads (g.R.Rig.seen c.args.rig.now).trace))) in
    let headers = c.clear_headers.ensures.clears in
    rw p.1 (record {
      keeps = headers.keeps;
      back = headers.back;
      holds = λ h0. record { writes = first_headers c.clear_headers.result fresh _ _ (headers.holds h0); at = tt; laid = tt; zeros = tt };
    })

pub returns-in_err-clear_log-clause-formats : goal.returns-in_err-clear_log-clause-formats
returns-in_err-clear_log-clause-formats g c =
    let p = err_from_is_err_and c.from_residual-in_err-clear_log.result c.from_residual-in_err-clear_log.ensures.1 in
    let fresh = fresh_stored (program_limit_of (is_large (reads (g.R.Rig.seen c.args.rig.now).trace))) in
    let headers = c.clear_headers.ensures.clears in
    let log = c.clear_log.ensures.clears in
    rw p.1 (record {
      keeps = λ h. log.keeps (headers.keeps h);
      back = λ h. headers.back (log.back h);
      holds = λ h0.
          let h1 = headers.keeps h0 in
          let one = first_headers c.clear_headers.result fresh _ _ (headers.holds h0) in
          record { writes = first_log c.clear_log.result fresh _ _ _ one (log.holds h1); at = tt; laid = tt; zeros = tt };
    })

pub returns-in_err-write_fresh_snapshot-clause-formats : goal.returns-in_err-write_fresh_snapshot-clause-formats
returns-in_err-write_fresh_snapshot-clause-formats g c =
    let p = err_from_is_err_and c.from_residual-in_err-write_fresh_snapshot.result c.from_residual-in_err-write_fresh_snapshot.ensures.1 in
    let headers = c.clear_headers.ensures.clears in
    let log = c.clear_log.ensures.clears in
    let fresh = fresh_stored (program_limit_of (is_large (reads (g.R.Rig.seen c.args.rig.now).trace))) in
    let area = c.write_fresh_snapshot.ensures.writes fresh.program_limit in
    rw p.1 (record {
      keeps = λ h. area.keeps (log.keeps (headers.keeps h));
      back = λ h. headers.back (log.back (area.back h));
      holds = λ h0.
          let h1 = headers.keeps h0 in
          let h2 = log.keeps h1 in
          let one = first_headers c.clear_headers.result fresh _ _ (headers.holds h0) in
          let two = first_log c.clear_log.result fresh _ _ _ one (log.holds h1) in
          record {
            writes = first_area c.write_fresh_snapshot.result c.snapshot_first.result fresh _ _ _
                c.snapshot_first.ensures.is two (area.holds h2);
            at = tt;
            laid = tt;
            zeros = tt;
          };
    })

pub returns-in_err-clear_tools-clause-formats : goal.returns-in_err-clear_tools-clause-formats
returns-in_err-clear_tools-clause-formats g c =
    let p = err_from_is_err_and c.from_residual-in_err-clear_tools.result c.from_residual-in_err-clear_tools.ensures.1 in
    let headers = c.clear_headers.ensures.clears in
    let log = c.clear_log.ensures.clears in
    let fresh = fresh_stored (program_limit_of (is_large (reads (g.R.Rig.seen c.args.rig.now).trace))) in
    let area = c.write_fresh_snapshot.ensures.writes fresh.program_limit in
    let tools = c.clear_tools.ensures.clears in
    rw p.1 (record {
      keeps = λ h. tools.keeps (area.keeps (log.keeps (headers.keeps h)));
      back = λ h. headers.back (log.back (area.back (tools.back h)));
      holds = λ h0.
          let h1 = headers.keeps h0 in
          let h2 = log.keeps h1 in
          let h3 = area.keeps h2 in
          let one = first_headers c.clear_headers.result fresh _ _ (headers.holds h0) in
          let two = first_log c.clear_log.result fresh _ _ _ one (log.holds h1) in
          let three = first_area c.write_fresh_snapshot.result c.snapshot_first.result fresh _ _ _ c.snapshot_first.ensures.is two (area.holds h2) in
          record {
            writes = first_tools c.clear_tools.result c.tools_first.result fresh _ _ _ refl
                c.tools_first.ensures.is three (tools.holds h3);
            at = tt;
            laid = tt;
            zeros = tt;
          };
    })

pub returns-in_err-sync-clause-formats : goal.returns-in_err-sync-clause-formats
returns-in_err-sync-clause-formats g c =
    let p = err_from_is_err_and c.from_residual-in_err-sync.result c.from_residual-in_err-sync.ensures.1 in
    let headers = c.clear_headers.ensures.clears in
    let log = c.clear_log.ensures.clears in
    let fresh = fresh_stored (program_limit_of (is_large (reads (g.R.Rig.seen c.args.rig.now).trace))) in
    let area = c.write_fresh_snapshot.ensures.writes fresh.program_limit in
    let tools = c.clear_tools.ensures.clears in
    let sync = c.sync.ensures.trace in
    rw p.1 (record {
      keeps = λ h. sync.keeps (tools.keeps (area.keeps (log.keeps (headers.keeps h))));
      back = λ h. headers.back (log.back (area.back (tools.back (sync.back h))));
      holds = λ h0.
          let h1 = headers.keeps h0 in
          let h2 = log.keeps h1 in
          let h3 = area.keeps h2 in
          let hs = tools.keeps h3 in
          let one = first_headers c.clear_headers.result fresh _ _ (headers.holds h0) in
          let two = first_log c.clear_log.result fresh _ _ _ one (log.holds h1) in
          let three = first_area c.write_fresh_snapshot.result c.snapshot_first.result fresh _ _ _ c.snapshot_first.ensures.is two (area.holds h2) in
          let more = first_tools c.clear_tools.result c.tools_first.result fresh _ _ _ refl c.tools_first.ensures.is three (tools.holds h3) in
          record { writes = first_sync c.sync.result fresh _ _ _ more (sync.holds hs); at = tt; laid = tt; zeros = tt };
    })

pub returns-in_err-write-clause-formats : goal.returns-in_err-write-clause-formats
returns-in_err-write-clause-formats g c =
    let p = err_from_is_err_and c.from_residual-in_err-write.result c.from_residual-in_err-write.ensures.1 in
    let headers = c.clear_headers.ensures.clears in
    let log = c.clear_log.ensures.clears in
    let fresh = fresh_stored (program_limit_of (is_large (reads (g.R.Rig.seen c.args.rig.now).trace))) in
    let area = c.write_fresh_snapshot.ensures.writes fresh.program_limit in
    let tools = c.clear_tools.ensures.clears in
    let sync = c.sync.ensures.trace in
    let write = c.write.ensures.trace in
    rw p.1 (record {
      keeps = λ h. write.keeps (sync.keeps (tools.keeps (area.keeps (log.keeps (headers.keeps h)))));
      back = λ h. headers.back (log.back (area.back (tools.back (sync.back (write.back h)))));
      holds = λ h0.
          let h1 = headers.keeps h0 in
          let h2 = log.keeps h1 in
          let h3 = area.keeps h2 in
          let hs = tools.keeps h3 in
          let h4 = sync.keeps hs in
          let one = first_headers c.clear_headers.result fresh _ _ (headers.holds h0) in
          let two = first_log c.clear_log.result fresh _ _ _ one (log.holds h1) in
          let three = first_area c.write_fresh_snapshot.result c.snapshot_first.result fresh _ _ _ c.snapshot_first.ensures.is two (area.holds h2) in
          let more = first_tools c.clear_tools.result c.tools_first.result fresh _ _ _ refl c.tools_first.ensures.is three (tools.holds h3) in
          let four = first_sync c.sync.result fresh _ _ _ more (sync.holds hs) in
          record {
            writes = first_write c.write.result fresh c.header_sector.result _ _ _
                c.header_sector.ensures.holds four (write.holds h4);
            at = tt;
            laid = tt;
            zeros = tt;
          };
    })

pub returns-clause-formats : goal.returns-clause-formats
returns-clause-formats g c =
    let headers = c.in_ok-clear_headers.ensures.clears in
    let log = c.in_ok-clear_log.ensures.clears in
    let fresh = fresh_stored (program_limit_of (is_large (reads (g.R.Rig.seen c.args.rig.now).trace))) in
    let area = c.in_ok-write_fresh_snapshot.ensures.writes fresh.program_limit in
    let tools = c.in_ok-clear_tools.ensures.clears in
    let sync = c.in_ok-sync.ensures.trace in
    let write = c.in_ok-write.ensures.trace in
    let last = c.sync-2.ensures.trace in
    record {
      keeps = λ h. last.keeps (write.keeps (sync.keeps (tools.keeps (area.keeps (log.keeps (headers.keeps h))))));
      back = λ h. headers.back (log.back (area.back (tools.back (sync.back (write.back (last.back h))))));
      holds = λ h0.
          let h1 = headers.keeps h0 in
          let h2 = log.keeps h1 in
          let h3 = area.keeps h2 in
          let hs = tools.keeps h3 in
          let h4 = sync.keeps hs in
          let s = steps _ _ _ _ fresh _ _ _ _ _ c.snapshot_first.result c.tools_first.result refl
          c.snapshot_first.ensures.is c.tools_first.ensures.is (headers.holds h0) (log.holds h1) (area.holds h2)
          (tools.holds h3) in
          let f = finished c.sync-2.result fresh _ _ _ _ _ _ _ _ c.header_sector.result s refl refl
          (table_long 5399 5219 (pos 1_000_000)) refl c.header_sector.ensures.read c.header_sector.ensures.holds
          (sync.holds hs) (write.holds h4) (last.holds (write.keeps h4)) in
          record { writes = f.writes; at = f.at; laid = f.laid; zeros = f.zeros };
    }

pub clear_headers-requires : goal.clear_headers-requires
clear_headers-requires g c = omega arith

pub branch-clear_headers-requires : goal.branch-clear_headers-requires
branch-clear_headers-requires g c κs = search rules

pub from_residual-requires : goal.from_residual-requires
from_residual-requires g c κs = search rules

pub returns-in_err-clear_headers-clause-call : goal.returns-in_err-clear_headers-clause-call
returns-in_err-clear_headers-clause-call g c = grind arith

pub clear_log-requires : goal.clear_log-requires
clear_log-requires g c = omega arith

pub branch-clear_log-requires : goal.branch-clear_log-requires
branch-clear_log-requires g c κs = search rules

pub from_residual-requires-in_err-clear_log : goal.from_residual-requires-in_err-clear_log
from_residual-requires-in_err-clear_log g c κs = search rules

pub returns-in_err-clear_log-clause-call : goal.returns-in_err-clear_log-clause-call
returns-in_err-clear_log-clause-call g c = grind arith

pub snapshot_first-requires : goal.snapshot_first-requires
snapshot_first-requires g c = omega arith

pub write_fresh_snapshot-requires-clause-within : goal.write_fresh_snapshot-requires-clause-within
write_fresh_snapshot-requires-clause-within g c = omega arith

pub branch-write_fresh_snapshot-requires : goal.branch-write_fresh_snapshot-requires
branch-write_fresh_snapshot-requires g c κs = search rules

pub tools_first-requires : goal.tools_first-requires
tools_first-requires g c = omega arith

pub clear_tools-requires-clause-sectors : goal.clear_tools-requires-clause-sectors
clear_tools-requires-clause-sectors g c = omega arith

pub clear_tools-requires-clause-within : goal.clear_tools-requires-clause-within
clear_tools-requires-clause-within g c = omega arith

pub branch-clear_tools-requires : goal.branch-clear_tools-requires
branch-clear_tools-requires g c κs = search rules

pub from_residual-requires-in_err-clear_tools : goal.from_residual-requires-in_err-clear_tools
from_residual-requires-in_err-clear_tools g c κs = search rules

pub returns-in_err-clear_tools-clause-call : goal.returns-in_err-clear_tools-clause-call
returns-in_err-clear_tools-clause-call g c = grind arith

pub sync-requires : goal.sync-requires
sync-requires g c κs = grind arith

pub branch-sync-requires : goal.branch-sync-requires
branch-sync-requires g c κs = search rules

pub from_residual-requires-in_err-sync : goal.from_residual-requires-in_err-sync
from_residual-requires-in_err-sync g c κs = search rules

pub returns-in_err-sync-clause-call : goal.returns-in_err-sync-clause-call
returns-in_err-sync-clause-call g c = grind arith

pub header_sector-requires : goal.header_sector-requires
header_sector-requires g c = omega arith

pub write-requires : goal.write-requires
write-requires g c = omega arith

pub branch-write-requires : goal.branch-write-requires
branch-write-requires g c κs = search rules

pub from_residual-requires-in_err-write : goal.from_residual-requires-in_err-write
from_residual-requires-in_err-write g c κs = search rules

pub returns-in_err-write-clause-call : goal.returns-in_err-write-clause-call
returns-in_err-write-clause-call g c = grind arith

pub sync-requires-2 : goal.sync-requires-2
sync-requires-2 g c κs = grind arith

pub returns-clause-call : goal.returns-clause-call
returns-clause-call g c = grind arith
