-- Answers to the goals of `put_order_line` in src/write.rt.
use Rattle.std.proofs.Common.{◌∙◌, ◌∷◌, ◌++◌, ap, length, subst}
use Rattle.ln_order.specs.Places.{order_places}
use Rattle.ln_code.specs.Lists.{list_of}
use Rattle.ln_cert.specs.Writing.{Puts}
use Rattle.ln_cert.proofs.Writing.Programmed.{order_wrote, places_put}
use Rattle.ln_cert.proofs.Writing.Wrote.{PutOrder, order_line}
use Rattle.ln_cert.proofs.write.put_order_line.Goals as goal

pub returns : goal.returns
returns c =
    let parts : PutOrder c.args.out.now.items c.push.new.self.items (order_places c.args.o.now) (list_of c.args.p.now (order_places c.args.o.now)) =
    record {
      after_word = c.put.new.out.items;
      after_places = c.put_places.new.out.items;
      after_colon = c.put_word.new.out.items;
      after_list = c.put_list.new.out.items;
      word = c.in_ok-put.ensures ∙ ap (λ z. c.args.out.now.items ++ z) c.as_slice.ensures;
      places =
          places_put c.put.new.out.items c.put_places.new.out.items c.places.result.now (order_places c.args.o.now) c.in_ok-put_places.ensures
          c.places.ensures.value;
      colon = subst (λ z. Puts c.put_places.new.out.items c.put_word.new.out.items (λ r. z ∷ r)) c.as_slice-2.ensures c.in_ok-put_word.ensures;
      list = c.in_ok-put_list.ensures;
      end = c.in_ok-push.ensures.items;
    } in
    order_wrote c.args.out.now.items c.push.new.self.items (length c.args.p.now.blocks) (order_places c.args.o.now)
    (list_of c.args.p.now (order_places c.args.o.now))
    (order_line c.args.out.now.items c.push.new.self.items (order_places c.args.o.now) (list_of c.args.p.now (order_places c.args.o.now)) parts)
    c.places.ensures.few c.places.ensures.each c.requires.few c.requires.list
