-- The laws, at a code whose bytes are below 256.
use Rattle.std.proofs.Common.{sym, arith}
use Rattle.bpf_isa.proofs.DecodedLaws.{IsCodeAt-decoded, decoded-IsCodeAt, units-decoded}
use Rattle.bpf_isa.proofs.laws.decoded_is_code.Goals as goal

pub returns-clause-stands : goal.returns-clause-stands
returns-clause-stands c =
    λ pc i units e. IsCodeAt-decoded c.args.code.now pc i units (λ k. omega (arith, c.type_inv.code k)) e

pub returns-clause-fits : goal.returns-clause-fits
returns-clause-fits c =
    λ pc i units e. (
    let at = IsCodeAt-decoded c.args.code.now pc i units (λ k. omega (arith, c.type_inv.code k)) e in
    (at.fits, sym at.units_are)
    )

pub returns-clause-inside : goal.returns-clause-inside
returns-clause-inside c = λ pc i units e. (units-decoded c.args.code.now pc i units e).1

pub returns-clause-only : goal.returns-clause-only
returns-clause-only c = λ pc i units at. decoded-IsCodeAt c.args.code.now pc i units at
