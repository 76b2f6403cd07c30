-- `ng_pace_make` meets its contract: the handle is made, and written where there is room for it.
use Rattle.ng_pace_c.proofs.ExportLemmas.{◌≡◌, [], ◌∷◌, refl, proved, full_share, id⊢, ftrue, fex, vunit, fact, tables, ‵, raw, ◌⊛◌, some, later, prop, at_ret, ◌$◌, ◌∵◌, !, qed, done, move, keep, drop, use1, use2, split, join, fpack, feq_i, pick, await, regoal, suffices, group, enter, of_opd, unit_lit, stop, no_more, assigns_last, first, blocks, exec, returns, alloc_all, pass_all, free_all, look_at, get, through, sets, lands_as, env, yes, Is, shows, part_at, Ptr, RawPtr, block_ptr, lies_at, in_a_block, rawptr_vals, rawptr_Tells, plain, nothing, heard, peeks, calls_at, lasts, on_entry, triple_of, Stays, walk_of, stay_dropped, Goes-dropped, ends_at, framed}
use prog.Wp.{WpFn}
use types.Run.{init}
use denote.RawPtr.{room_at}
use Rattle.std.specs.Prelude.{None}
use borrow.Table.OneValue.{part_in}
use Rattle.ng_pace_c.specs.declared.calls.Handle.{Handle}
use Rattle.ng_pace_c.specs.Exports.{handle_row}
use Rattle.ng_pace_c.proofs.calls.Handle.TheLaws as handle_laws
use Rattle.ng_pace_c.specs.contracts.exports.ng_pace_make as f
use Rattle.ng_pace_c.proofs.exports.ng_pace_make.Statement.{statement}
use Rattle.ng_pace_c.proofs.exports.ng_pace_make.Code as code
use Rattle.ng_pace_c.specs.contracts.calls.none as g
use Rattle.ng_pace_c.proofs.calls.none.Met.{met}

abbrev stayed : Stays f.ended.signature.params f.ended.kept
stayed = (stay_dropped _ yes, tt)

pub ng_pace_make_spec : {M : Type 1} → statement M
ng_pace_make_spec 𝓤 𝓛 𝓜 𝓡 wired =
    let c = f.clauses 𝓛 𝓜.mem 𝓡.returns in let W = walk_of 𝓛 f.ended stayed c in let 𝓣 = tables 𝓤 𝓛.H 𝓜 𝓡 𝓡.env in
    proved 𝓛 f.ended stayed c 𝓜 𝓡 (Goes-dropped 𝓛 0 (plain (λ _. RawPtr)) yes (λ κs x w. refl), tt)
    f.Key.name code.function (code.unfolded 𝓤 𝓛.H 𝓜 𝓡 wired)
    (λ κs. (rawptr_vals, tt)) (λ κs. (rawptr_Tells, tt)) (λ κs qs bounds a no are.
    let y : Ptr → W.Ghost = λ p. ((κs, qs, bounds, (p, tt), (rawptr_vals p, tt)), no) in
    qed 𝓛 (raw (on_entry 𝓛 f.signature κs qs a (y a.0).0.4) ∷ ‵ (room_at handle_row a.0) ∷ []) ∵ drop ! $
    in_a_block ! a.0 (λ p. room_at handle_row p) (id⊢ 𝓤 _) (λ b o e.
    regoal ! (λ p. prop (WpFn 𝓤 𝓛.H 𝓣.C 𝓣.Λ code.function (rawptr_vals p) (W.post (y p)))) e refl $
    enter ! _ _ _ _ _ $ alloc_all ! (λ l. pass_all ! refl ((tt, tt), tt) $
    -- [the room]
    let G = triple_of 𝓛 g.signature (g.spec 𝓛 𝓜.mem 𝓡.returns) in
    let z : G.Ghost = ((tt, tt, tt, tt, tt), tt) in
    nothing ! $ nothing ! $ join ! $ nothing ! $ move ! (1 ∷ 0 ∷ []) $ join ! $ use1 𝓛 (raw (G.pre z)) (id⊢ 𝓤 _) $
    calls_at ! (framed 𝓤 𝓛.H 𝓜 (tables 𝓤 𝓛.H 𝓜 𝓡 𝓡.env)) G (met 𝓤 𝓛 𝓜 𝓡 (code.calls-ng_pace_c::calls::none 𝓡.env wired)) z
    (no_more !) (λ v.
    use1 𝓛 (later (some (λ (u : Handle). (‵ ftrue ⊛ ‵ (handle_row.own_val u (v ∷ []))) ⊛
    some (λ (ws : Unit {0}). ‵ (lasts g.ended z.0.0 z.0.3 ws) ⊛ raw (fact 𝓤 (u.stream ≡ None)))))) (id⊢ 𝓤 _) $
    await ! tt $ pick ! (λ u. split ! $ split ! $
    -- [nothing; the handle; what is said of it; the room]
    move ! (2 ∷ []) $ pick ! (λ ws. split ! $ drop ! $ heard ! _ (λ is_none.
    move ! (1 ∷ []) $ peeks ! handle_row (Is handle_row) (shows 𝓛 handle_row) u (v ∷ []) (λ is.
    let good = ((handle_laws.the_row_laws.lawful 𝓛).typed u _ is).0 in
    lands_as ! refl refl good $
    -- [the handle; nothing; the room]
    first ! $ blocks ! $
    sets ! (of_opd ! (get ! refl)) refl (tt, tt) $
    sets ! (of_opd ! (get ! refl)) refl good $
    assigns_last ! (of_opd ! (get ! refl)) (through ! refl (stop !)) (init ! 2 refl good) $
    exec ! 𝓣.C 𝓣.Λ (env code.Mir.locals l) code.Mir.t-3 (at_ret _ (W.post (y (block_ptr b o)))) $
    sets ! (of_opd ! (unit_lit !)) refl (tt, tt) $
    -- [the handle; nothing; the handle's cell]
    move ! (2 ∷ 0 ∷ []) $ use2 𝓛 (‵ (part_at handle_row full_share u b o)) (part_in 𝓛 handle_row refl full_share u b o v) $
    use1 𝓛 (‵ (lies_at handle_row full_share (block_ptr b o) u)) (id⊢ 𝓤 _) $
    fpack ! _ (λ _. lies_at handle_row full_share (block_ptr b o) u) is_none $
    fpack ! _ (λ t. fex (t.stream ≡ None) (λ _. lies_at handle_row full_share (block_ptr b o) t)) u $
    returns ! (look_at ! 0 refl) $ free_all ! refl $ keep ! (0 ∷ []) $
    suffices ! _ (ends_at 𝓛 f.ended stayed c (y (block_ptr b o)) vunit tt (tt, tt) (tt, tt)) $
    feq_i ! _ (vunit ∷ []) _ refl $ nothing ! $ nothing ! $ join ! $ nothing ! $ group ! 3 $ done !))))))))
