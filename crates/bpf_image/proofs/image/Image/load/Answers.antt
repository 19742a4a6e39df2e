use Rattle.std.proofs.Common.{◌≡◌, Result, Ok, Err, sym, ap, ◌∙◌}
use Rattle.bpf_image.specs.declared.image_error.ImageError.{ImageError}
use Rattle.bpf_image.specs.Program.{Program}
use Rattle.bpf_image.specs.Reading.{header_of}
use Rattle.bpf_image.proofs.HeaderLaws.{header_whole, header_only, header_fault, same_fault}
use Rattle.bpf_image.proofs.image.Image.load.Goals as goal

abbrev refused : ImageError → Result Program ImageError
refused error = Err error

pub image_of-requires-clause-whole : goal.image_of-requires-clause-whole
image_of-requires-clause-whole c =
    let is : header_of c.args.bytes.now ≡ Ok c.in-Ok.record_length = sym c.read_header.ensures ∙ c.in-Ok.is in
    (header_whole c.args.bytes.now c.in-Ok.record_length is).0

pub returns-in-Err-clause-fault : goal.returns-in-Err-clause-fault
returns-in-Err-clause-fault c =
    let is : header_of c.args.bytes.now ≡ Err c.in-Err.error = sym c.read_header.ensures ∙ c.in-Err.is in
    header_fault c.args.bytes.now c.in-Err.error is

pub returns-in-Err-clause-only : goal.returns-in-Err-clause-only
returns-in-Err-clause-only c error other fault =
    let is : header_of c.args.bytes.now ≡ Err c.in-Err.error = sym c.read_header.ensures ∙ c.in-Err.is in
    let same : c.in-Err.error ≡ error = same_fault c.in-Err.error error (sym is ∙ header_only c.args.bytes.now error other fault) in
    ap refused same

pub returns-in-Err-image_of-clause-fault : goal.returns-in-Err-image_of-clause-fault
returns-in-Err-image_of-clause-fault c =
    let is : header_of c.args.bytes.now ≡ Ok c.in-Ok.record_length = sym c.read_header.ensures ∙ c.in-Ok.is in
    (header_whole c.args.bytes.now c.in-Ok.record_length is).0
