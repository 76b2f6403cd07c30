-- `ng_pace_wanted` meets its contract: the handle is lent for the call, and comes back.
use Rattle.ng_pace_c.proofs.ExportLemmas.{ℕ, [], ◌∷◌, ◌++◌, refl, proved, full_share, id⊢, ftrue, flft, flent, fex, named, vptr, w64, MutBor, fact, tables, ‵, raw, ◌⊛◌, some, later, prop, at_ret, ◌$◌, ◌∵◌, !, qed, done, move, keep, drop, use1, use3, split, join, fsplit, fjoin, fpack, pick, await, regoal, suffices, group, enter, of_opd, addr, stop, no_more, and_then, first, blocks, exec, returns, alloc_all, pass_all, free_all, look_at, get, through, sets, sets_last, lands_as, env, lft_new, lft_end, Body, u64, yes, Is, shows, lends_ref, ref_back, mem, part_at, uint_vals, uint_Tells, uint_Lawful, Ptr, RawPtr, block_ptr, lies_at, in_a_block, rawptr_vals, rawptr_Tells, MutRef, owns, plain, nothing, heard, peeks, calls_at, lasts, triple_of, Stays, walk_of, stay_dropped, Goes-dropped, ends_at, framed}
use prog.Wp.{WpFn}
use Rattle.ng_pace_c.specs.declared.calls.Handle.{Handle}
use Rattle.ng_pace_c.specs.Calls.{IsWanted}
use Rattle.ng_pace_c.specs.Exports.{handle_row}
use Rattle.ng_pace_c.specs.contracts.exports.ng_pace_wanted as f
use Rattle.ng_pace_c.proofs.exports.ng_pace_wanted.Statement.{statement}
use Rattle.ng_pace_c.proofs.exports.ng_pace_wanted.Code as code
use Rattle.ng_pace_c.specs.contracts.calls.wanted as g
use Rattle.ng_pace_c.proofs.calls.wanted.Met.{met}

abbrev stayed : Stays f.ended.signature.params f.ended.kept
stayed = (stay_dropped _ yes, (stay_dropped _ yes, tt))

pub ng_pace_wanted_spec : {M : Type 1} → statement M
ng_pace_wanted_spec 𝓤 𝓛 𝓜 𝓡 wired =
    let c = f.clauses 𝓛 𝓜.mem 𝓡.returns in let W = walk_of 𝓛 f.ended stayed c in let 𝓣 = tables 𝓤 𝓛.H 𝓜 𝓡 𝓡.env in
    proved 𝓛 f.ended stayed c 𝓜 𝓡
    (Goes-dropped 𝓛 0 (plain (λ _. RawPtr)) yes (λ κs x w. refl), (Goes-dropped 𝓛 0 (plain (λ _. u64)) yes (λ κs x w. refl), tt))
    f.Key.name code.function (code.unfolded 𝓤 𝓛.H 𝓜 𝓡 wired)
    (λ κs. (rawptr_vals, (uint_vals w64, tt))) (λ κs. (rawptr_Tells, (uint_Tells w64, tt))) (λ κs qs bounds a before are.
    let y : Ptr → W.Ghost = λ p. ((κs, qs, bounds, (p, (a.1.0, tt)), (rawptr_vals p, (uint_vals w64 a.1.0, tt))), before) in
    qed 𝓛 ((‵ ftrue ⊛ ‵ (owns (RawPtr ∷ u64 ∷ []) a (y a.0).0.4)) ∷ ‵ (lies_at handle_row full_share a.0 before) ∷ []) ∵
    split ! $ drop ! $ fsplit ! $ drop ! $ move ! (1 ∷ []) $
    -- [the handle; what the other parameters own]
    in_a_block ! a.0 (λ p. lies_at handle_row full_share p before) (id⊢ 𝓤 _) (λ b o e.
    regoal ! (λ p. prop (WpFn 𝓤 𝓛.H 𝓣.C 𝓣.Λ code.function (rawptr_vals p ++ (uint_vals w64 a.1.0 ++ [])) (W.post (y p)))) e refl $
    enter ! _ _ _ _ _ $ alloc_all ! (λ l. pass_all ! refl ((tt, tt), ((tt, record { fits = are.1.0.1 }), tt)) $
    first ! $ blocks ! $
    sets ! (of_opd ! (get ! refl)) refl (tt, tt) $
    sets ! (of_opd ! (get ! refl)) refl (tt, tt) $
    sets_last ! (addr ! (through ! refl (stop !))) refl (tt, tt) $
    exec ! 𝓣.C 𝓣.Λ (env code.Mir.locals l) code.Mir.t-2 (at_ret _ (W.post (y (block_ptr b o)))) $
    sets ! (of_opd ! (get ! refl)) refl (tt, tt) $
    sets ! (of_opd ! (get ! refl)) refl (tt, record { fits = are.1.0.1 }) $
    lft_new ! tt (λ α. let κ = α ∷ [] in move ! (1 ∷ 0 ∷ []) $
    use1 𝓛 (later (some (λ (γ : ℕ). ‵ ((MutRef (named 0) κ handle_row).own_val (record { ref_ptr = (b, o); ghost_name = γ; now = before }) (vptr b o ∷ [])) ⊛ ‵ (flent κ (Body (mem handle_row) b o γ)))))
    (lends_ref 𝓛 handle_row (named 0) κ before b o) $ await ! tt $ pick ! (λ γ. split ! $
    -- [the loan; what the lender keeps; the token of κ; what the other parameters own]
    let G = triple_of 𝓛 g.signature (g.spec 𝓛 𝓜.mem 𝓡.returns) in
    let r : MutBor Handle = record { ref_ptr = (b, o); ghost_name = γ; now = before } in
    let z : G.Ghost = (((κ, tt), (full_share, tt), tt, (r, (a.1.0, tt)), (vptr b o ∷ [], (uint_vals w64 a.1.0, tt))), tt) in
    move ! (0 ∷ 3 ∷ []) $ fjoin ! $ nothing ! $ move ! (3 ∷ 0 ∷ []) $ join ! $ join ! $ nothing ! $ move ! (1 ∷ 0 ∷ []) $ join ! $ use1 𝓛 (raw (G.pre z)) (id⊢ 𝓤 _) $
    calls_at ! (framed 𝓤 𝓛.H 𝓜 (tables 𝓤 𝓛.H 𝓜 𝓡 𝓡.env)) G (met 𝓤 𝓛 𝓜 𝓡 (code.calls-ng_pace_c::calls::wanted 𝓡.env wired)) z
    (and_then ! (get ! refl) (and_then ! (get ! refl) (no_more !))) (λ v.
    use1 𝓛 (later (some (λ (u : ℕ). ((‵ (flft κ full_share) ⊛ ‵ ftrue) ⊛ ‵ ((u64).own_val u (v ∷ []))) ⊛
    some (λ (ws : Handle × (Unit {0} × Unit {0})). ‵ (lasts g.ended z.0.0 z.0.3 ws) ⊛ raw (fact 𝓤 (IsWanted before ws.0 a.1.0 u)))))) (id⊢ 𝓤 _) $
    await ! tt $ pick ! (λ u. split ! $ split ! $ split ! $ lft_end ! tt $
    -- [κ is over; nothing; the result; the last value; what the lender keeps]
    move ! (2 ∷ []) $ peeks ! u64 (Is u64) (shows 𝓛 u64) u (v ∷ []) (λ is. lands_as ! refl refl ((uint_Lawful 𝓛 w64).typed u _ is).0 $
    move ! (3 ∷ []) $ pick ! (λ ws. split ! $ move ! (1 ∷ []) $ heard ! _ (λ done_so. fsplit ! $ fsplit ! $
    -- [the last value; its borrow; nothing; the result; κ is over; nothing; what the lender keeps]
    move ! (4 ∷ 6 ∷ 0 ∷ []) $ use3 𝓛 (later (‵ (part_at handle_row full_share ws.0 b o))) (ref_back 𝓛 handle_row κ γ ws.0 b o) $ await ! tt $
    use1 𝓛 (‵ (lies_at handle_row full_share (block_ptr b o) ws.0)) (id⊢ 𝓤 _) $
    fpack ! _ (λ _. lies_at handle_row full_share (block_ptr b o) ws.0) done_so $
    fpack ! _ (λ t. fex (IsWanted before t a.1.0 u) (λ _. lies_at handle_row full_share (block_ptr b o) t)) ws.0 $
    -- [what lies there; the last value's borrow; nothing; the result; ..]
    returns ! (look_at ! 0 refl) $ free_all ! refl $ keep ! (3 ∷ 0 ∷ []) $
    suffices ! _ (ends_at 𝓛 f.ended stayed c (y (block_ptr b o)) v u (tt, (tt, tt)) (tt, (tt, tt))) $
    nothing ! $ nothing ! $ join ! $ nothing ! $ join ! $ nothing ! $ group ! 3 $ done !))))))))))
