use Rattle.std.proofs.Common.{◌≡◌, ◌≤◌, ◌∙◌, ap, sym, refl, subst, length, ℕ, List, rules}
use Rattle.std.specs.Prelude.{Option, Some, None, Ok, option_map}
use Rattle.std.specs.Str.{bytes_eq}
use Rattle.certificate.specs.declared.lines.Channel.{Channel}
use Rattle.certificate.specs.declared.authorities.Authority.{Authority}
use Rattle.rights.specs.Classes.{Class}
use Rattle.certificate.specs.Bounds.{Certificate}
use Rattle.certificate.specs.Lines.{Line, is_of_version}
use Rattle.certificate.specs.Order.{same_class}
use Rattle.certificate.specs.Growth.{IsCertificate, all_classes, classes_in_line, classes_of, distinct, most_classes, programs_named, stands, taken}
use Rattle.certificate.specs.Room.{listed_with}
use Rattle.certificate.specs.CountViews.{programs_listed}
use Rattle.certificate.specs.Views.{authorities_of, certificate_with, channels_of, line_of, version_of}
use Rattle.certificate.proofs.Behind.{classes_few}
use Rattle.certificate.proofs.Growing.{is_there, not_there, room_no_class, room_no_program, room_yes, taken_no_room, taken_ok, taken_out_of_order}
use Rattle.certificate.proofs.Made.{grown}
use Rattle.certificate.proofs.certs.Cert.push.Goals as goal

abbrev counted : Line → List Class → Option ℕ
counted line classes = option_map length (listed_with same_class most_classes (distinct same_class classes) (classes_in_line line))

pub returns-then-not-has_room-clause-taken : goal.returns-then-not-has_room-clause-taken
returns-then-not-has_room-clause-taken c =
    let version = version_of c.self.inside.version in
    let line = line_of c.args.line.now in
    let old = certificate_with version c.self.inside.points.items c.self.inside.channels.items c.self.inside.authorities.items in
    (ap (λ v. taken v line) (sym c.self.view_is) ∙ taken_no_room old line (room_no_program old line _ c.self.invariant.1 (not_there _ (sym c.has_room.ensures ∙ c.if-not-has_room.true))), refl)

pub classes_with-requires-clause-few : goal.classes_with-requires-clause-few
classes_with-requires-clause-few c = subst (λ n. n ≤ 32) (sym c.self.invariant.2) (classes_few _ c.self.invariant.0)

pub returns-in_default-clause-taken : goal.returns-in_default-clause-taken
returns-in_default-clause-taken c =
    let version = version_of c.self.inside.version in
    let line = line_of c.args.line.now in
    let old = certificate_with version c.self.inside.points.items c.self.inside.channels.items c.self.inside.authorities.items in
    let asked = subst (λ (lists : List Channel × List Authority). None ≡ counted line (all_classes (channels_of lists.0) (authorities_of lists.1)))
    (λ i. (c.deref-channels.ensures.value i, c.deref-authorities.ensures.value i)) c.in_default.ensures in
    (ap (λ v. taken v line) (sym c.self.view_is) ∙ taken_no_room old line (room_no_class old line asked), refl)

pub returns-then-not-stands-clause-taken : goal.returns-then-not-stands-clause-taken
returns-then-not-stands-clause-taken c =
    let version = version_of c.self.inside.version in
    let line = line_of c.args.line.now in
    let old = certificate_with version c.self.inside.points.items c.self.inside.channels.items c.self.inside.authorities.items in
    let asked = subst (λ (lists : List Channel × List Authority). Some c.in-Some.classes ≡ counted line (all_classes (channels_of lists.0) (authorities_of lists.1)))
    (λ i. (c.deref-channels.ensures.value i, c.deref-authorities.ensures.value i)) c.in-Some.ensures in
    let listed = is_there _ (sym c.has_room.ensures ∙ c.if-not-has_room.false) in
    let has = room_yes old line _ listed.0 _ c.self.invariant.1 listed.1 asked in
    let here : stands (certificate_with version c.deref.result.now c.deref-channels.result.now c.deref-authorities.result.now) line ≡ stands old line =
    λ i. stands (certificate_with version (c.deref.ensures.value i) (c.deref-channels.ensures.value i) (c.deref-authorities.ensures.value i)) line in
    let astray = sym here ∙ sym (c.stands.ensures version) ∙ c.if-not-stands.true in
    (ap (λ v. taken v line) (sym c.self.view_is) ∙ taken_out_of_order old line has.room astray, refl)

pub invariant_of-self : goal.invariant_of-self
invariant_of-self c =
    let version = version_of c.self.inside.version in
    let line = line_of c.args.line.now in
    let old = certificate_with version c.self.inside.points.items c.self.inside.channels.items c.self.inside.authorities.items in
    let asked = subst (λ (lists : List Channel × List Authority). Some c.in-Some.classes ≡ counted line (all_classes (channels_of lists.0) (authorities_of lists.1)))
    (λ i. (c.deref-channels.ensures.value i, c.deref-authorities.ensures.value i)) c.in-Some.ensures in
    let has = room_yes old line _ _ _ c.self.invariant.1 c.add_programs.ensures asked in
    let here : stands (certificate_with version c.deref.result.now c.deref-channels.result.now c.deref-authorities.result.now) line ≡ stands old line =
    λ i. stands (certificate_with version (c.deref.ensures.value i) (c.deref-channels.ensures.value i) (c.deref-authorities.ensures.value i)) line in
    let place = sym here ∙ sym (c.stands.ensures version) ∙ c.if-not-stands.false in
    grown old _ line _ _ c.self.invariant.0 c.requires.line (ap (λ (v : Certificate). is_of_version v.version line) c.self.view_is ∙ c.requires.version) has place (c.in-Ok.ensures.ok version)

pub returns-in-Ok-clause-taken : goal.returns-in-Ok-clause-taken
returns-in-Ok-clause-taken c =
    let version = version_of c.self.inside.version in
    let line = line_of c.args.line.now in
    let old = certificate_with version c.self.inside.points.items c.self.inside.channels.items c.self.inside.authorities.items in
    let asked = subst (λ (lists : List Channel × List Authority). Some c.in-Some.classes ≡ counted line (all_classes (channels_of lists.0) (authorities_of lists.1)))
    (λ i. (c.deref-channels.ensures.value i, c.deref-authorities.ensures.value i)) c.in-Some.ensures in
    let has = room_yes old line _ _ _ c.self.invariant.1 c.add_programs.ensures asked in
    let here : stands (certificate_with version c.deref.result.now c.deref-channels.result.now c.deref-authorities.result.now) line ≡ stands old line =
    λ i. stands (certificate_with version (c.deref.ensures.value i) (c.deref-channels.ensures.value i) (c.deref-authorities.ensures.value i)) line in
    let place = sym here ∙ sym (c.stands.ensures version) ∙ c.if-not-stands.false in
    ap (λ v. taken v line) (sym c.self.view_is) ∙ taken_ok old line has.room place ∙ ap Ok (sym (c.in-Ok.ensures.ok version))

pub invariant_of-self-in-Err : goal.invariant_of-self-in-Err
invariant_of-self-in-Err c =
    let version = version_of c.self.inside.version in
    subst (λ d. IsCertificate d × (programs_listed c.self.inside.programs ≡ distinct bytes_eq (programs_named d)) × (c.self.inside.classes ≡ length (distinct same_class (classes_of d))))
    (sym (c.in-Err.ensures.err version)) c.self.invariant

pub returns-in-Err-clause-taken : goal.returns-in-Err-clause-taken
returns-in-Err-clause-taken c =
    let version = version_of c.self.inside.version in
    let same : certificate_with version c.extend.new.points.items c.extend.new.channels.items c.extend.new.authorities.items ≡ c.args.self.now =
    c.in-Err.ensures.err version ∙ c.self.view_is
    in
    search (rules, same)
