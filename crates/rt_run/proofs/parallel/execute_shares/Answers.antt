use Rattle.std.proofs.Common.{◌≡◌, List, [], length, get_or, ap, sym, subst, ◌∙◌, arith}
use Rattle.std.proofs.lemmas.List.{length-map}
use Rattle.rt_rib.specs.Book.{TableContents}
use Rattle.rt_run.specs.RunText.{InputContents}
use Rattle.rt_run.specs.Shares.{share_with}
use Rattle.rt_run.proofs.Dealt.{shares_end, table_count, are_shares, are_tallies_of_each, part_lengths, given_by_parts}
use Rattle.rt_run.proofs.parallel.execute_shares.Goals as goal

pub put_back-requires : goal.put_back-requires
put_back-requires g c =
    let taken = c.in_ok-parts.ensures {u = tt} in
    let ran = c.in_ok-runs.ensures {u = tt} in
    let end = shares_end c.in_ok-parts.parts.items c.requires.some c.requires.dealt taken.count ran.count taken.parts ran.each (c.in_ok-tables.ensures {u = tt}) in
    rw (c.deref_mut.ensures.value, taken.as_many) (part_lengths end)

pub returns : goal.returns
returns g c =
    let taken = c.in_ok-parts.ensures {u = tt} in
    let ran = c.in_ok-runs.ensures {u = tt} in
    let end = shares_end c.in_ok-parts.parts.items c.requires.some c.requires.dealt taken.count ran.count taken.parts ran.each (c.in_ok-tables.ensures {u = tt}) in
    let parts : c.deref_mut.result.now ≡ c.in_ok-tables.parts.items = c.deref_mut.ensures.value in
    record {
      shares = are_shares end;
      given_back = given_by_parts end c.put_back.new.input (c.put_back.ensures.limit ∙ taken.limit) (c.put_back.ensures.as_many ∙ taken.as_many)
          (λ k none here within.
          subst (λ (all : List InputContents). get_or c.put_back.new.input.texts k [] ≡ get_or (get_or all (share_with c.args.dealt.now k) none).texts k []) parts
          (c.put_back.ensures.texts k none (omega (arith, here, taken.as_many)) (omega (arith, within, ap length parts))));
      tallies = are_tallies_of_each end;
      count = sym (length-map c.in_ok-tables.tables.items (λ (table : TableContents). table.routes)) ∙ table_count end;
    }
