use Rattle.std.proofs.Common.{◌≡◌, ◌≤◌, ◌<◌, ◌^◌, List, ℕ, length, take, sym, ap, subst, ◌∙◌, arith}
use Rattle.std.proofs.lemmas.List.{take_all}
use Rattle.rv_base.specs.declared.layout.TheConstants.{HEADER_BYTES}
use Rattle.rv_file.specs.Front.{front_length}
use Rattle.rv_host.specs.Files.{file}
use Rattle.rv_commands.proofs.Fronts.{cut-short, first-bytes, front-ends, front-least, front-most, nothing, unchanged-both}
use Rattle.rv_commands.proofs.judging.read_front.Goals as goal

pub returns-in-None : goal.returns-in-None
returns-in-None g c =
    let read = c.in_ok-read_on.ensures in
    let short : length c.read_on.new.bytes.items < HEADER_BYTES = subst (λ (bytes : List ℕ). length bytes < HEADER_BYTES) c.deref.ensures.value c.in-None.ensures.cases in (
      read.0,
      λ told is. first-bytes (file told c.args.name.now) c.read_on.new.bytes.items HEADER_BYTES (read.3 told is (nothing c.new-front.result.items (file told c.args.name.now) c.new-front.ensures.items)),
      λ not_whole told is. cut-short (file told c.args.name.now) c.read_on.new.bytes.items HEADER_BYTES (read.3 told is (nothing c.new-front.result.items (file told c.args.name.now) c.new-front.ensures.items)) short,
    )

pub read_on-requires-2-clause-most : goal.read_on-requires-2-clause-most
read_on-requires-2-clause-most g c = subst (λ n. n ≤ 2 ^ 32) (sym c.front_len-length.ensures) (front-most c.in-Some.header.now)

pub read_on-requires-2-clause-room : goal.read_on-requires-2-clause-room
read_on-requires-2-clause-room g c = omega (arith, c.in_ok-read_on.ensures.1, c.front_len-length.ensures, front-least c.in-Some.header.now)

pub returns : goal.returns
returns g c =
    let read = c.in_ok-read_on.ensures in
    let more = c.in_ok-read_on-2.ensures in
    let bytes : List ℕ = c.read_on.new.bytes.items in
    let header : c.in-Some.header.now ≡ take HEADER_BYTES bytes = c.in-Some.ensures.cases.same ∙ ap (take HEADER_BYTES) c.deref.ensures.value in
    let enough : HEADER_BYTES ≤ length bytes = subst (λ (xs : List ℕ). HEADER_BYTES ≤ length xs) c.deref.ensures.value c.in-Some.ensures.cases.enough in
    let full : length bytes ≡ HEADER_BYTES = omega (arith, read.1, enough) in
    let length_is : c.front_len-length.result ≡ front_length bytes = c.front_len-length.ensures ∙ ap front_length (header ∙ take_all HEADER_BYTES bytes (omega (arith, full))) in (
      unchanged-both read.0 more.0,
      λ told is. first-bytes (file told c.args.name.now) c.read_on-2.new.bytes.items c.front_len-length.result
          (more.3 told (read.0.files ∙ is) (first-bytes (file told c.args.name.now) bytes HEADER_BYTES (read.3 told is (nothing c.new-front.result.items (file told c.args.name.now) c.new-front.ensures.items)))),
      λ not_whole told is. front-ends (file told c.args.name.now) bytes c.read_on-2.new.bytes.items more.2.0 full more.2.1
          (more.3 told (read.0.files ∙ is) (first-bytes (file told c.args.name.now) bytes HEADER_BYTES (read.3 told is (nothing c.new-front.result.items (file told c.args.name.now) c.new-front.ensures.items))) ∙ ap (λ n. take n (file told c.args.name.now)) length_is)
          (subst (λ n. length c.read_on-2.new.bytes.items ≤ n) length_is more.1) not_whole,
    )
