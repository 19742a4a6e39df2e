use Rattle.std.proofs.Common.{length, refl, ap, sym, arith}
use Rattle.std.proofs.lemmas.List.{length-append, length-set}
use Rattle.embedding.proofs.SliceCounts.{counted_more, filled_more, rest_more, follow_next}
use Rattle.embedding.specs.Slices.{Begins}
use Rattle.embedding.proofs.slices.lend.Goals as goal

pub slices-init : goal.slices-init
slices-init c = record {
  fit = omega arith;
  filled = λ k d below. absurd (omega (arith, below));
  rest = refl;
  some = omega (arith, ap length c.cursor_from-cursor.ensures.left);
  begins = sym c.cursor_from-cursor.ensures.left;
}

pub slices-preserved : goal.slices-preserved
slices-preserved c =
    let here = c.slices-test.true in
    let some = c.slices.invariant.some in
    let cut = ap length c.in-Some.ensures.lent.1 in
    let count = c.slice_from.ensures.count in
    let begins : Begins c.slices.cursor c.slice_from.result c.next_slice.new.self = record {
      own = c.in-Some.words.now;
      cut = c.in-Some.ensures.lent.1;
      count = count;
      first = c.first_of.result;
      word = c.first_of.ensures;
      at = c.slice_from.ensures.at;
    } in
    record {
      fit = omega (arith, here, length-set c.slices.slices c.slices.lent c.slice_from.result);
      filled = filled_more c.slices.slices c.slices.lent c.slice_from.result here (omega (arith, count, c.in-Some.ensures.lent.0)) c.slices.invariant.filled;
      rest = rest_more c.slices.slices _ c.slices.lent c.slice_from.result c.slices.invariant.rest;
      some = omega (arith, some, cut, count, length-append c.in-Some.words.now c.next_slice.new.self, counted_more c.slices.slices c.slices.lent c.slice_from.result here);
      begins = follow_next _ c.slices.slices c.slices.lent c.slice_from.result c.slices.cursor c.next_slice.new.self here c.slices.invariant.begins begins;
    }

pub returns-in_default : goal.returns-in_default
returns-in_default c =
    let some = c.slices.invariant.some in
    record {
      fit = c.slices.invariant.fit;
      filled = c.slices.invariant.filled;
      rest = c.slices.invariant.rest;
      some = omega (arith, some);
      left = _;
      begins = c.slices.invariant.begins;
      all = λ below. (let none = ap length c.in_default.ensures.lent.0 in omega (arith, some, none));
    }

pub returns : goal.returns
returns c =
    let some = c.slices.invariant.some in
    let past = c.slices-test.false in
    record {
      fit = c.slices.invariant.fit;
      filled = c.slices.invariant.filled;
      rest = c.slices.invariant.rest;
      some = omega (arith, some);
      left = _;
      begins = c.slices.invariant.begins;
      all = λ below. absurd (omega (arith, past, below));
    }
