use Rattle.std.proofs.Common.{◌≡◌, ◌<◌, true, Result, Ok, Err, length, sym, ap, subst, ◌∙◌, rules}
use Rattle.std.specs.Prelude.{is_ok, OnOk}
use Rattle.c_grammar.specs.Seen.{token_of, AreTokens}
use Rattle.c_scanner.specs.Seen.{at_places}
use Rattle.c_scanner.proofs.Places.{plain_places}
use Rattle.c_scanner.proofs.Turns.{no_head, start, start_long, white_then, piece_then, nothing_there, are_tokens}
use Rattle.c_scanner.proofs.scanning.tokens.Goals as goal

on_ok : {T E : Type 0} (r : Result T E) (P : Type 0) → OnOk r P → is_ok r ≡ true → P
on_ok (Ok x) P h e = h
on_ok (Err x) P h e = absurd cc

pub returns-in-Err-clause-fault : goal.returns-in-Err-clause-fault
returns-in-Err-clause-fault c = no_head c.args.bytes.now c.in-Err.n c.in-Err.ensures.stripped

pub loop-rest-init : goal.loop-rest-init
loop-rest-init c =
    let bytes = c.args.bytes.now in let body = c.in-Ok.body.now in
    record { cut = start bytes body (at_places c.new-tokens.result.items c.new-places.result.items) c.in-Ok.ensures.stripped (ap (λ l. at_places l c.new-places.result.items) c.new-tokens.ensures.items); within = start_long bytes body c.in-Ok.ensures.stripped; as_many = search rules }

pub loop-rest-preserved-in-White : goal.loop-rest-preserved-in-White
loop-rest-preserved-in-White c =
    let i = c.loop-rest.invariant in
    record {
      cut = white_then c.args.bytes.now c.loop-rest.rest.now c.split_at.result.1.now (at_places c.loop-rest.tokens.items c.loop-rest.places.items) i.cut c.in-White.ensures c.split_at.ensures.back;
      within = search rules;
      as_many = i.as_many;
    }

pub returns-in-Nothing-clause-fault : goal.returns-in-Nothing-clause-fault
returns-in-Nothing-clause-fault c =
    let i = c.loop-rest.invariant in
    let some : 0 < length c.loop-rest.rest.now = search rules in
    nothing_there c.args.bytes.now c.loop-rest.rest.now (at_places c.loop-rest.tokens.items c.loop-rest.places.items) c.loop-rest.place some i.cut i.within c.in-Nothing.ensures

pub loop-rest-preserved : goal.loop-rest-preserved
loop-rest-preserved c =
    let i = c.loop-rest.invariant in
    let ok = sym c.map_err.ensures.variant ∙ ap is_ok c.in_ok-map_err.was in
    let put = on_ok c.put.result _ c.put.ensures.put ok in
    record {
      cut = piece_then c.args.bytes.now c.loop-rest.rest.now c.split_at-in-loop-rest.result.1.now (at_places c.loop-rest.tokens.items c.loop-rest.places.items) (at_places c.put.new.tokens.items c.put.new.places.items) c.loop-rest.place c.in-Piece.len
          (token_of c.in-Piece.token) i.cut i.within c.in-Piece.ensures put c.split_at-in-loop-rest.ensures.back;
      within = search rules;
      as_many = on_ok c.put.result _ c.put.ensures.as_many ok;
    }

pub returns-clause-names : goal.returns-clause-names
returns-clause-names c =
    let i = c.loop-rest.invariant in
    let all = are_tokens c.args.bytes.now c.loop-rest.rest.now (at_places c.loop-rest.tokens.items c.loop-rest.places.items) i.cut in
    subst AreTokens (plain_places c.loop-rest.tokens.items c.loop-rest.places.items i.as_many) all
