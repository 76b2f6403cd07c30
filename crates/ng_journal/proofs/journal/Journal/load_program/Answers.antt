use Rattle.std.proofs.Common.{◌≡◌, ◌⊎◌, ◌<◌, ◌≤◌, ◌↔◌, ℕ, true, length, refl, sym, ap, subst, ◌∙◌, arith, rules}
use Rattle.ng_layout.specs.Limits.{greatest_count}
use Rattle.ng_layout.specs.Areas.{greatest_area, is_large_size, spare_area}
use Rattle.ng_layout.specs.Header.{longest_in, program_limit_of}
use Rattle.ng_layout.specs.Stored.{DurableState, StoredModel}
use Rattle.ng_journal.specs.AtRest.{next_header}
use Rattle.ng_journal.specs.Journal.{JournalModel, IsSteady}
use Rattle.ng_layout.specs.declared.header.Header.{Header}
use Rattle.ng_log.specs.AtEnd.{no_records}
use Rattle.ng_journal.specs.declared.storing.Tip.{Tip}
use Rattle.ng_journal.specs.Private.Records.{ledger}
use Rattle.ng_journal.specs.Storing.{Ledger, with_program}
use Rattle.ng_journal.proofs.ProgramLimitLemmas.{with_limit, load_limited}
use Rattle.ng_journal.proofs.StoredChangeLemmas.{loaded, not_loaded, loaded_as, not_loaded_as}
use Rattle.ng_journal.proofs.ProgramHeldLemmas.{holds_load}
use Rattle.ng_journal.proofs.RecordStoreLemmas.{own}
use Rattle.ng_journal.proofs.SteadyJournalLemmas.{fits_load, more_epochs, steady_loaded, storable_limited}
use Rattle.ng_journal.proofs.journal.Journal.load_program.Goals as goal

pub returns-in-Ok-clause-stores : goal.returns-in-Ok-clause-stores
returns-in-Ok-clause-stores g c =
    let inside = c.self.inside in
    let header = inside.tip.header in
    let area = c.spare_area-area.result in
    let area_is : area ≡ spare_area (is_large_size (g.R.Rig.seen inside.rig).sectors) header.area =
    c.spare_area-area.ensures.is ∙ ap (λ (n : ℕ). spare_area (is_large_size n) header.area)
    c.size.ensures.value in
    let limited = with_limit inside.stored.program_limit c.args.stored.now in
    let after : DurableState = record { saved = limited; program = c.args.text.now } in
    let next_is = c.next_header-next.ensures ∙ (λ i. next_header header area (c.stored.view_is i).length) in
    let used = subst (λ (v : JournalModel g.row.R.Denot).
    (c.is_used_up.result ≡ true) ↔ ((greatest_count < c.stored.inside.entries)
    ⊎ (greatest_count ≤ v.header.epoch))) (sym c.self.view_is) c.is_used_up.ensures in
    let more = more_epochs c.is_used_up.result c.stored.inside.entries header used c.if-is_used_up.false in
    let has = subst (λ (n : ℕ). area ≤ greatest_area (is_large_size n)) c.size.ensures.value c.spare_area-area.ensures.most in
    let limit_is = ap (λ s. s.stored.program_limit) c.self-inside.view_is in
    let short : c.args.stored.now.length ≤ inside.stored.program_limit = omega (arith, c.requires.long, c.if-text-self.false, limit_is) in
    let longest = subst (λ (n : ℕ). longest_in area ≡ program_limit_of (is_large_size n)) c.size.ensures.value c.spare_area-area.ensures.program_limit in
    let fitting : length c.args.text.now ≤ longest_in area = omega (arith, c.if-text-self.false, limit_is, c.self.invariant.program_limit, longest) in
    let stops = c.in-Ok.ensures.stops in
    let stores = c.in-Ok.ensures.stores in
    rw (← c.self.view_is) (record {
      keeps = stops.keeps;
      back = stops.back;
      holds = λ h. record {
        stops = λ standing rest.
            let fits = fits_load _ area inside.stored limited rest.at rest.saved_is c.self.invariant more.0 has longest short refl in
            loaded _ _ _ area header c.next_header-next.result inside.tip.end standing after _ _
            c.beginning-self-inside.ensures next_is c.take_state.ensures rest.at
            (stops.holds h inside.stored.program_limit (own rest.at) fits);
        writes = loaded_as area _ header _ _ _ area_is
            (load_limited inside.stored.program_limit _ area header c.args.stored.now c.args.text.now _ _ (stores.holds h));
        holds = holds_load _ area header _ (record { saved = c.args.stored.now; program = c.args.text.now }) _ _
            c.requires.long fitting (stores.holds h) (ap (λ (t : Tip). t.header) c.beginning-self-inside.ensures
            ∙ next_is);
      };
    })

pub returns-in-Err-clause-stores : goal.returns-in-Err-clause-stores
returns-in-Err-clause-stores g c =
    let inside = c.self.inside in
    let header = inside.tip.header in
    let area = c.spare_area-area.result in
    let area_is : area ≡ spare_area (is_large_size (g.R.Rig.seen inside.rig).sectors) header.area =
    c.spare_area-area.ensures.is ∙ ap (λ (n : ℕ). spare_area (is_large_size n) header.area)
    c.size.ensures.value in
    let limited = with_limit inside.stored.program_limit c.args.stored.now in
    let after : DurableState = record { saved = limited; program = c.args.text.now } in
    let used = subst (λ (v : JournalModel g.row.R.Denot).
    (c.is_used_up.result ≡ true) ↔ ((greatest_count < c.stored.inside.entries)
    ⊎ (greatest_count ≤ v.header.epoch))) (sym c.self.view_is) c.is_used_up.ensures in
    let more = more_epochs c.is_used_up.result c.stored.inside.entries header used c.if-is_used_up.false in
    let has = subst (λ (n : ℕ). area ≤ greatest_area (is_large_size n)) c.size.ensures.value c.spare_area-area.ensures.most in
    let limit_is = ap (λ s. s.stored.program_limit) c.self-inside.view_is in
    let short : c.args.stored.now.length ≤ inside.stored.program_limit = omega (arith, c.requires.long, c.if-text-self.false, limit_is) in
    let longest = subst (λ (n : ℕ). longest_in area ≡ program_limit_of (is_large_size n)) c.size.ensures.value c.spare_area-area.ensures.program_limit in
    let stops = c.load.ensures.stops in
    let stores = c.load.ensures.stores in
    rw (← c.self.view_is) (record {
      keeps = stops.keeps;
      back = stops.back;
      holds = λ h. record {
        stops = λ standing rest.
            let fits = fits_load _ area inside.stored limited rest.at rest.saved_is c.self.invariant more.0 has longest short refl in
            not_loaded _ c.load.result _ area header inside.tip.end standing after _ _ rest.at
            (stops.holds h inside.stored.program_limit (own rest.at) fits);
        writes = not_loaded_as area _ _ c.load.result header _ _ _ area_is
            (load_limited inside.stored.program_limit c.load.result area header c.args.stored.now c.args.text.now _ _ (stores.holds h));
        holds = tt;
      };
    })

pub returns-in-Ok-clause-keeps : goal.returns-in-Ok-clause-keeps
returns-in-Ok-clause-keeps g c =
    let inside = c.self.inside in
    let header = inside.tip.header in
    let area = c.spare_area-area.result in
    let area_is : area ≡ spare_area (is_large_size (g.R.Rig.seen inside.rig).sectors) header.area =
    c.spare_area-area.ensures.is ∙ ap (λ (n : ℕ). spare_area (is_large_size n) header.area)
    c.size.ensures.value in
    let next_is = c.next_header-next.ensures ∙ (λ i. next_header header (area_is i) (c.stored.view_is i).length) in
    let ledger_is : ◌≡◌ {A = Ledger}
    (record {
      header = c.beginning-self-inside.result.header;
      end = c.beginning-self-inside.result.end;
      saved =
          c.take_state.new.stored;
    })
    (with_program (g.R.Rig.seen inside.rig).sectors
    (ledger inside.tip inside.stored) (with_limit inside.stored.program_limit c.args.stored.now)) = λ i.
    record {
      header = ((c.beginning-self-inside.ensures
          ∙ ap (λ (h : Header). (let t : Tip = record { header = h; end = no_records } in t)) next_is) i).header;
      end = (c.beginning-self-inside.ensures i).end;
      saved = c.take_state.ensures i;
    } in
    rw (← c.self.view_is) (record { saved_is = c.take_state.ensures; ledger = ledger_is; count = search rules })

pub invariant_of-self : goal.invariant_of-self
invariant_of-self g c =
    let inside = c.self.inside in
    let header = inside.tip.header in
    let area = c.spare_area-area.result in
    let used = subst (λ (v : JournalModel g.row.R.Denot).
    (c.is_used_up.result ≡ true) ↔ ((greatest_count < c.stored.inside.entries)
    ⊎ (greatest_count ≤ v.header.epoch))) (sym c.self.view_is) c.is_used_up.ensures in
    let more = more_epochs c.is_used_up.result c.stored.inside.entries header used c.if-is_used_up.false in
    let has = subst (λ (n : ℕ). area ≤ greatest_area (is_large_size n)) c.size.ensures.value c.spare_area-area.ensures.most in
    let limit_is = ap (λ s. s.stored.program_limit) c.self-inside.view_is in
    let short : c.args.stored.now.length ≤ inside.stored.program_limit = omega (arith, c.requires.long, c.if-text-self.false, limit_is) in
    let longest = subst (λ (n : ℕ). longest_in area ≡ program_limit_of (is_large_size n)) c.size.ensures.value c.spare_area-area.ensures.program_limit in
    let next_is = c.next_header-next.ensures ∙ (λ i. next_header header area (c.stored.view_is i).length) in
    let now_is = ap (λ (v : JournalModel g.row.R.Denot). v.saved.program_limit) c.self.view_is in
    let storable = storable_limited inside.stored c.args.stored.now c.self.invariant.storable
    (c.requires.storable (omega (arith, c.if-text-self.false, limit_is, now_is))) short in
    let steady = steady_loaded _ _ area header c.next_header-next.result inside.tip.end inside.stored
    (with_limit inside.stored.program_limit c.args.stored.now) c.self.invariant c.in-Ok.ensures.call.size more.0 has
    longest short refl storable (subst (λ (s : StoredModel). s.entries ≤ greatest_count) c.stored.view_is
    more.1) next_is in
    rw c.beginning-self-inside.ensures
    (subst (λ (x : StoredModel). IsSteady (g.R.Rig.seen c.load.new.rig).sectors c.next_header-next.result
    no_records x) (sym c.take_state.ensures) steady)

pub returns-then-text-self-clause-stores : goal.returns-then-text-self-clause-stores
returns-then-text-self-clause-stores g c = grind arith

pub returns-then-text-self-clause-keeps : goal.returns-then-text-self-clause-keeps
returns-then-text-self-clause-keeps g c = omega arith

pub returns-then-text-self-clause-fails : goal.returns-then-text-self-clause-fails
returns-then-text-self-clause-fails g c = grind arith

pub returns-then-text-self-clause-call : goal.returns-then-text-self-clause-call
returns-then-text-self-clause-call g c = grind arith

pub is_used_up-requires : goal.is_used_up-requires
is_used_up-requires g c κs = grind arith

pub returns-then-is_used_up-clause-stores : goal.returns-then-is_used_up-clause-stores
returns-then-is_used_up-clause-stores g c = grind arith

pub returns-then-is_used_up-clause-keeps : goal.returns-then-is_used_up-clause-keeps
returns-then-is_used_up-clause-keeps g c = omega arith

pub returns-then-is_used_up-clause-call : goal.returns-then-is_used_up-clause-call
returns-then-is_used_up-clause-call g c = grind arith

pub size-requires : goal.size-requires
size-requires g c κs = grind arith

pub spare_area-area-requires : goal.spare_area-area-requires
spare_area-area-requires g c = grind arith

pub next_header-next-requires : goal.next_header-next-requires
next_header-next-requires g c = grind arith

pub load-requires-clause-least : goal.load-requires-clause-least
load-requires-clause-least g c = omega arith

pub load-requires-clause-counted : goal.load-requires-clause-counted
load-requires-clause-counted g c = grind arith

pub load-requires-clause-area : goal.load-requires-clause-area
load-requires-clause-area g c = grind arith

pub load-requires-clause-apart : goal.load-requires-clause-apart
load-requires-clause-apart g c = omega arith

pub load-requires-clause-sectors : goal.load-requires-clause-sectors
load-requires-clause-sectors g c = grind arith

pub load-requires-clause-short : goal.load-requires-clause-short
load-requires-clause-short g c = grind arith

pub load-requires-clause-count : goal.load-requires-clause-count
load-requires-clause-count g c = grind arith

pub load-requires-clause-storable : goal.load-requires-clause-storable
load-requires-clause-storable g c = grind arith

pub load-requires-clause-long : goal.load-requires-clause-long
load-requires-clause-long g c = omega arith

pub load-requires-clause-format : goal.load-requires-clause-format
load-requires-clause-format g c = grind arith

pub take_state-requires-clause-own : goal.take_state-requires-clause-own
take_state-requires-clause-own g c = omega arith

pub take_state-requires-clause-other : goal.take_state-requires-clause-other
take_state-requires-clause-other g c = grind arith

pub beginning-self-inside-requires : goal.beginning-self-inside-requires
beginning-self-inside-requires g c = omega arith

pub invariant_of-self-in-Err : goal.invariant_of-self-in-Err
invariant_of-self-in-Err g c = grind arith

pub returns-in-Ok-clause-call : goal.returns-in-Ok-clause-call
returns-in-Ok-clause-call g c = grind arith

pub returns-in-Err-clause-keeps : goal.returns-in-Err-clause-keeps
returns-in-Err-clause-keeps g c = omega arith

pub returns-in-Err-clause-call : goal.returns-in-Err-clause-call
returns-in-Err-clause-call g c = grind arith
