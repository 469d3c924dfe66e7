use Rattle.bundle.proofs.FoundFacts.{put_args, put_caches, put_context, put_dockerfile, put_images, put_target}
use Rattle.borrowed.specs.Seen.{data_of}
use Rattle.bundle.proofs.pulling.Found.pull.Goals as goal

pub returns-in_ok-args-in-args : goal.returns-in_ok-args-in-args
returns-in_ok-args-in-args g c =
    let v = c.in_ok-args-in-args.args in
    (data_of v, c.in_ok-args-in-args.ensures, λ ms h. put_args g.C.FromLentKeyed.reading c.args.self.now c.replace.new.self v c.args.key.now ms c.in-args.is c.replace.ensures.after h)

pub returns-in_ok-caches-in-caches : goal.returns-in_ok-caches-in-caches
returns-in_ok-caches-in-caches g c =
    let pulled = c.in_ok-caches-in-caches.ensures in
    (pulled.0, pulled.1, λ ms h. put_caches g.C.FromLentKeyed.reading c.args.self.now c.replace-in-caches.new.self c.in_ok-caches-in-caches.caches pulled.0 c.args.key.now ms c.in-caches.is c.replace-in-caches.ensures.after pulled.2 h)

pub returns-in_ok-context-in-context : goal.returns-in_ok-context-in-context
returns-in_ok-context-in-context g c =
    let pulled = c.in_ok-context-in-context.ensures in
    (pulled.0, pulled.1, λ ms h. put_context g.C.FromLentKeyed.reading c.args.self.now c.replace-in-context.new.self c.in_ok-context-in-context.context pulled.0 c.args.key.now ms c.in-context.is c.replace-in-context.ensures.after pulled.2 h)

pub returns-in_ok-dockerfile-in-dockerfile : goal.returns-in_ok-dockerfile-in-dockerfile
returns-in_ok-dockerfile-in-dockerfile g c =
    let v = c.in_ok-dockerfile-in-dockerfile.dockerfile in
    (data_of v, c.in_ok-dockerfile-in-dockerfile.ensures, λ ms h. put_dockerfile g.C.FromLentKeyed.reading c.args.self.now c.replace-in-dockerfile.new.self v c.args.key.now ms c.in-dockerfile.is c.replace-in-dockerfile.ensures.after h)

pub returns-in_ok-images-in-images : goal.returns-in_ok-images-in-images
returns-in_ok-images-in-images g c =
    let pulled = c.in_ok-images-in-images.ensures in
    (pulled.0, pulled.1, λ ms h. put_images g.C.FromLentKeyed.reading c.args.self.now c.replace-in-images.new.self c.in_ok-images-in-images.images pulled.0 c.args.key.now ms c.in-images.is c.replace-in-images.ensures.after pulled.2 h)

pub returns-in_ok-target-in-target : goal.returns-in_ok-target-in-target
returns-in_ok-target-in-target g c =
    let v = c.in_ok-target-in-target.target in
    (data_of v, c.in_ok-target-in-target.ensures, λ ms h. put_target g.C.FromLentKeyed.reading c.args.self.now c.replace-in-target.new.self v c.args.key.now ms c.in-target.is c.replace-in-target.ensures.after h)
